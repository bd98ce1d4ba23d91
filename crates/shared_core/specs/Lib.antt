pub mod Prelude
pub mod CoreState
pub mod CoreCalls
pub mod Following
pub mod Reaching
pub mod Accounts
