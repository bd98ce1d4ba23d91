mod Prelude
mod LawLemmas
mod ReadLemmas
mod ReplyLemmas
pub mod ServedLemmas
mod TurnLemmas
