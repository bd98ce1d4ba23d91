pub mod Spans
pub mod ByKey
pub mod Counting
