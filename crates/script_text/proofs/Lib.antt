mod Prelude
mod AheadLemmas
mod ApartLemmas
mod Examples
mod InputLemmas
mod LineLemmas
mod ReadingLemmas
mod Walked
