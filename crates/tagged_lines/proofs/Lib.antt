mod Prelude
mod Examples
pub mod IdLemmas
pub mod TagLemmas
mod WritingSteps
