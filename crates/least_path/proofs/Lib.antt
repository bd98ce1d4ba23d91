mod Prelude
mod Edges
mod Exact
pub mod Agrees
pub mod Bounds
mod Examples
