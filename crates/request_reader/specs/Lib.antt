pub mod RequestRead
pub mod Parts
