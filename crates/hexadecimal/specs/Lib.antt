pub mod Hex
pub mod Coding
pub mod Number
pub mod Scan
