pub mod Body
pub mod Shape
pub mod Awaited
