pub mod Prelude
pub mod Asked
pub mod Checked
pub mod Configured
pub mod Drawn
pub mod Refused
pub mod StripAsked
