pub mod Prelude
pub mod TextLines
pub mod NetFile
pub mod PlaceFile
pub mod NodeText
pub mod RouteFile
pub mod FileParts
pub mod BlockClusters
