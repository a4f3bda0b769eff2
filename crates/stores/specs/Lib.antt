pub mod Writing
pub mod Reading
pub mod Copying
pub mod Marks
