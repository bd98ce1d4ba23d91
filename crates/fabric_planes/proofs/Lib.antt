mod Prelude
mod Labeled
mod Joins
mod Offsets
mod Strips
mod Nearer
mod Crossing
mod Members
mod Wires
mod PlaneEnds
mod Consecutive
mod Told
mod Found
mod Differences
mod SideWays
mod PlaneWays
mod Bounded
pub mod Lowered
mod Numbers
mod StepEnds
pub mod SideWires
mod PinPaths
mod HeadOrder
pub mod Heads
mod RivalLists
mod RivalSides
mod RivalStarts
mod RivalPaths
pub mod AheadWires
pub mod Untold
mod ListedStarts
mod NetRoads
pub mod Priced
pub mod WireBounds
pub mod StartLists
pub mod TrackStarts
pub mod SideRows
pub mod FirstPaths
mod OwnPins
mod BoundedSides
mod FarWires
mod ShownPins
mod ListedRows
mod PinsRowed
mod ArrivalNumbers
mod PinAparts
pub mod NetSearches
mod Alike
mod StepRows
pub mod BlockInputs
