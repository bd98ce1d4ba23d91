mod Prelude
mod Begun
pub mod Fronts
pub mod Nets
pub mod Places
pub mod Told
