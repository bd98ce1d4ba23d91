pub mod Prelude
pub mod InOrder
pub mod SameAnswers
