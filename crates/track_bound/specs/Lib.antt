pub mod Crossings
pub mod Busiest
