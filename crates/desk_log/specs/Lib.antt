pub mod Prelude
pub mod Printed
pub mod Shortened
