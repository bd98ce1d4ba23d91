pub mod Gaps
pub mod Moves
pub mod Settled
