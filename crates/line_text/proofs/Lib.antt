mod Prelude
mod DecimalLemmas
mod Examples
mod FirstPlaces
pub mod InOrder
mod LineLemmas
pub mod NameLemmas
mod OnePass
mod ReaderLemmas
pub mod RisingLines
mod TextSteps
mod WordLemmas
pub mod WritingLemmas
