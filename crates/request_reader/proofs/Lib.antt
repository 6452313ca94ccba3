pub mod Read
pub mod Spans
