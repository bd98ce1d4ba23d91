mod Prelude
mod Counting
mod FirstSights
mod FlatElements
mod LineOrder
pub mod Leading
pub mod Outside
mod Within
pub mod Marking
mod Choosing
pub mod Fitting
pub mod Elements
mod LeastUnfit
mod Marks
mod Raising
mod Choice
mod ElementLemmas
mod GrowingLemmas
mod ChoosingLemmas
mod FreeNumbers
mod KeyLemmas
mod Untouched
mod SeedLemmas
mod Filling
