mod Prelude
mod Examples
mod HeldLemmas
pub mod OperatorLemmas
pub mod Served
pub mod Stepping
