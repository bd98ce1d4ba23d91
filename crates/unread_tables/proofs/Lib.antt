mod Prelude
mod Marking
