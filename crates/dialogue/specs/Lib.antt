pub mod History
pub mod Keeping
