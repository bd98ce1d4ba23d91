mod Prelude
pub mod Marks
pub mod Following
pub mod Journals
pub mod Sums
pub mod Holders
pub mod Searching
pub mod Reaching
pub mod Kept
pub mod Wrapped
