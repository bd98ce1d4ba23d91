mod Prelude
mod Pairs
mod TwoLanes
