mod Prelude
mod LineRuns
mod ReadLemmas
pub mod RetellLemmas
mod RunLemmas
mod SumLemmas
pub mod WholeParts
