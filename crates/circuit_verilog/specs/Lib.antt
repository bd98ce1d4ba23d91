pub mod NetTexts
pub mod Parts
pub mod Verilog
