pub mod Prelude
pub mod Moments
pub mod Page
pub mod Told
