pub mod TableBits
pub mod CellLines
