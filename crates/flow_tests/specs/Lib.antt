pub mod Lanes
pub mod Tables
