mod Prelude
pub mod OwnColumns
pub mod Switches
