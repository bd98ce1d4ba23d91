pub mod Prelude
pub mod Held
pub mod HeldJobs
pub mod Ids
pub mod OperatorText
pub mod Operators
pub mod OwnersText
pub mod Serving
