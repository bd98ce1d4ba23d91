pub mod Prelude
pub mod Blocks
pub mod Stops
pub mod Measured
pub mod Text
