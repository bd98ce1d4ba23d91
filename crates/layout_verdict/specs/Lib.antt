pub mod Shapes
pub mod Texts
pub mod Verdicts
