pub mod ListKeys
pub mod AfreshLaws
