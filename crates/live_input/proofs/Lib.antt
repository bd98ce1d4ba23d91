mod Prelude
mod Examples
mod InputLemmas
mod TakenLemmas
