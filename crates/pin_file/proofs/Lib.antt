mod Prelude
mod Steps
mod Examples
