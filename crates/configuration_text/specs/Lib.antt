pub mod Prelude
pub mod Parts
pub mod Written
pub mod Sides
