mod Prelude
pub mod Found
pub mod Branches
pub mod Spots
pub mod NetDrivers
pub mod Members
pub mod Wiring
pub mod Connected
pub mod EachLine
pub mod OneDriver
pub mod OwnThings
pub mod TableValues
pub mod BlePlaces
pub mod Apart
mod Examples
