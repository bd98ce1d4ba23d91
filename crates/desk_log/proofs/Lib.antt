mod Prelude
mod Along
