pub mod Prelude
pub mod Commands
pub mod Exchanges
pub mod LinesRead
pub mod Serving
pub mod Speakers
