mod Prelude
pub mod Parts
pub mod Growing
pub mod CountingSort
