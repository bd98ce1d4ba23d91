mod Prelude
mod AskedLemmas
mod CrowdLemmas
mod FinishLemmas
mod LineLemmas
mod LeftLemmas
mod PartLemmas
mod RanLemmas
mod RefusalLemmas
mod SeatLemmas
mod ServeLemmas
pub mod OneRunLemmas
pub mod TurnLemmas
