mod Prelude
mod Inert
