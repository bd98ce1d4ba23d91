mod Prelude
mod CountMore
