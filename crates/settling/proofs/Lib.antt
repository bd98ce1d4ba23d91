mod Prelude
pub mod Claims
pub mod FullJournals
pub mod Matching
pub mod Totals
pub mod Agreeing
pub mod AllCalls
