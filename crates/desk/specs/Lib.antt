pub mod Ends
pub mod Errands
