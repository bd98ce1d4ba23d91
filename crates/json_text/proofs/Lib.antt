mod Prelude
pub mod Tokens
mod Examples
