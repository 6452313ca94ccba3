pub mod LineLaws
pub mod StoreLaws
pub mod FileLaws
pub mod LoadLaws
pub mod OneTable
pub mod WholeLaws
