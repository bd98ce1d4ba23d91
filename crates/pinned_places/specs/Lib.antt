pub mod Prelude
pub mod Pads
pub mod Exchanges
pub mod Results
