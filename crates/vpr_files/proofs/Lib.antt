mod Prelude
pub mod Searches
pub mod ClusterLemmas
pub mod TextLemmas
pub mod Globals
pub mod FileTexts
mod Examples
mod FileExamples
