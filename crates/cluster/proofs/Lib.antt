mod Prelude
pub mod Members
pub mod Steps
mod Going
mod NetLists
mod ReaderLists
mod FlatNets
mod PinRanks
mod NetLaws
mod DrivenNets
mod FewBlocks
mod BlockLists
mod TableLaws
mod PackedLaws
mod Examples
mod Legal
mod Partition
mod BlockNetLaws
mod PackingLaws
pub mod Pairs
pub mod Outputs
pub mod Keys
