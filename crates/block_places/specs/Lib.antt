pub mod Fits
pub mod Placed
