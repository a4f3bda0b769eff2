pub mod Handling
pub mod Listed
pub mod Zeros
