pub mod Prelude
pub mod Inputs
pub mod Lines
pub mod Outcomes
pub mod Sessions
pub mod Told
pub mod Waiting
pub mod WholeSession
