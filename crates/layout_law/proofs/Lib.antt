mod Prelude
pub mod Laws
pub mod Places
pub mod Ends
pub mod States
pub mod Routed
pub mod Files
