mod Prelude
mod AccountLemmas
mod Counting
mod Examples
mod ToldLines
