pub mod PinFiles
pub mod Reading
