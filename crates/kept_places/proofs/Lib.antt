mod Prelude
pub mod Orders
pub mod Entries
pub mod Filling
pub mod Sorting
