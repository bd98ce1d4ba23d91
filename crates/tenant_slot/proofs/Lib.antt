mod Prelude
pub mod Leading
pub mod Runs
mod Kept
mod Serving
mod Accepting
mod Putting
mod Taking
mod RoutedSets
mod Examples
