pub mod Prelude
pub mod Accounts
pub mod Asking
pub mod LineReplies
pub mod Present
pub mod ScriptLines
pub mod Told
pub mod Usage
