mod Prelude
pub mod ListLemmas
pub mod OwnerLemmas
pub mod ReadLemmas
pub mod StepLemmas
pub mod WordLemmas
