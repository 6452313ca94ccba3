pub mod BulkLaws
pub mod ReadLaws
pub mod Spans
