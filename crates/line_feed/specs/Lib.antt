pub mod Feed
pub mod Pieces
