pub mod Prelude
pub mod Asked
pub mod Jobs
pub mod RoutedJson
pub mod Scripts
pub mod Written
