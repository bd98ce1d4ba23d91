mod Prelude
mod Lists
