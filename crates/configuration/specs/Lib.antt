pub mod Prelude
pub mod Lines
pub mod RoutedPins
pub mod Configuration
pub mod Drivers
pub mod Wired
pub mod Things
pub mod ConfigurationText
