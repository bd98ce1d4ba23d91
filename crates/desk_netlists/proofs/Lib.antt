mod Prelude
mod Printing
mod Runs
mod Saving
mod Sizes
mod Stems
