pub mod Channels
pub mod Columns
pub mod Report
pub mod Tenancies
pub mod Text
pub mod Widest
