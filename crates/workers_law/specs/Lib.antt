pub mod SameScript
pub mod Waited
pub mod Workers
