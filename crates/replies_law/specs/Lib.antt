pub mod Prelude
pub mod Alone
pub mod Memory
pub mod OneOutput
pub mod ReadBack
