mod Prelude
pub mod Laid
pub mod Windows
mod Examples
