pub mod Prelude
pub mod Lines
pub mod Owning
pub mod Reading
pub mod Sizes
pub mod Words
