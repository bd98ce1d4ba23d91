mod Prelude
pub mod Shown
pub mod Zipped
