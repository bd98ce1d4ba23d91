pub mod Counts
pub mod Lacking
pub mod Text
