pub mod Prelude
pub mod Account
pub mod Fed
pub mod Held
pub mod Machine
pub mod Parts
pub mod Turn
pub mod Workers
