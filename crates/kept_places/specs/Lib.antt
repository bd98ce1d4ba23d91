pub mod Kept
pub mod Table
pub mod Rows
pub mod Shared
