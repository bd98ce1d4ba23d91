pub mod Keeping
pub mod Lack
pub mod Turns
