mod Prelude
pub mod Columns
pub mod Listing
pub mod Places
mod Examples
