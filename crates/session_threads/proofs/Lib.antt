mod Prelude
pub mod KnownLemmas
pub mod HeadLemmas
pub mod LineLemmas
pub mod ToldLemmas
pub mod ItemLemmas
pub mod OutcomeLemmas
pub mod TurnLemmas
pub mod SessionLemmas
pub mod WaitingLemmas
