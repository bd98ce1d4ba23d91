pub mod Prelude
pub mod Endings
pub mod Ends
pub mod Fed
pub mod Outlet
pub mod Replays
pub mod Serving
pub mod Taken
