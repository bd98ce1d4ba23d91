pub mod Channels
pub mod Numbers
