pub mod File
pub mod StoreLoad
