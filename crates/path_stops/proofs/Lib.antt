mod Prelude
mod Zipped
