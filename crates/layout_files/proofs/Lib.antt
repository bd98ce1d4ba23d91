mod Prelude
pub mod Printing
pub mod Lines
pub mod Fronts
pub mod Finding
pub mod Halfway
pub mod Reading
pub mod ReadingRoutes
pub mod ReadingNets
