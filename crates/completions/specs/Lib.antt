pub mod Pages
pub mod Shells
