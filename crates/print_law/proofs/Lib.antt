mod Prelude
pub mod Paths
pub mod Nodes
pub mod Elements
pub mod Blocks
pub mod Numbers
pub mod Nets
pub mod Files
pub mod Names
pub mod Filed
pub mod Verdicts
pub mod Tools
