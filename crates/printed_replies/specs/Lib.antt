pub mod Files
pub mod Lengths
pub mod Parts
pub mod Printing
pub mod Replies
pub mod Sections
