pub mod Counts
mod Examples
