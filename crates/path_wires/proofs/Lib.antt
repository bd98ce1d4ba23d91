mod Prelude
mod Along
mod Counts
