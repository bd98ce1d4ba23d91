pub mod Prelude
pub mod Acts
pub mod Ends
pub mod Figures
pub mod Laws
pub mod Live
pub mod Said
