pub mod Runs
pub mod Bytes
pub mod Messages
pub mod Digits
pub mod Marking
