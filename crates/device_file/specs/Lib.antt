pub mod DeviceFiles
pub mod Reading
