pub mod Prelude
pub mod Layouts
pub mod Holding
pub mod Implements
pub mod Connects
pub mod LayoutOf
