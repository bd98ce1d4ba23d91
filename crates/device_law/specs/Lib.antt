pub mod Prelude
pub mod OwnersBack
pub mod ReadBack
pub mod Shown
