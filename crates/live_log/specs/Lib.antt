pub mod Prelude
pub mod Alike
pub mod Choice
pub mod Kept
pub mod LastTags
pub mod Questions
