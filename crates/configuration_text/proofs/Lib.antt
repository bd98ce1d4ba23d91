mod Prelude
pub mod Switches
pub mod Searches
pub mod Rest
pub mod NumberBits
pub mod Places
pub mod LastWord
pub mod Rows
pub mod Numbers
pub mod Texts
pub mod Found
pub mod Received
pub mod Within
pub mod DriversIn
