pub mod Prelude
pub mod Commands
pub mod Given
pub mod Promises
