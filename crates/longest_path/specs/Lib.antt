pub mod Paths
pub mod Reaches
pub mod Passes
pub mod Settled
pub mod Ends
pub mod Tracing
pub mod Lasting
