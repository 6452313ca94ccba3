pub mod Digits
pub mod HexLaws
pub mod Pairs
pub mod Paste
pub mod InPlace
pub mod Decodes
pub mod Values
pub mod Second
