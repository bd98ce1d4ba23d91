mod Prelude
pub mod Columns
pub mod Numbers
mod Examples
