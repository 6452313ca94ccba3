pub mod EntryRead
pub mod EntryWrite
