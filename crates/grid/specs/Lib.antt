pub mod Sizes
pub mod Places
pub mod Listed
pub mod PlaceLaws
pub mod Numbers
