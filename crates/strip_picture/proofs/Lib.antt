mod Prelude
pub mod Tracks
