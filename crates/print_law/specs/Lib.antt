pub mod Prints
pub mod Tools
