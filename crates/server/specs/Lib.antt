pub mod CallDone
pub mod Act
pub mod Bulk
pub mod Lines
pub mod Gives
pub mod ManyCalls
