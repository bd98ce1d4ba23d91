mod Prelude
pub mod Edges
pub mod Chains
pub mod Counts
pub mod Bounds
pub mod Loops
