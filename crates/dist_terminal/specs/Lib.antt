pub mod State
pub mod Data
pub mod Length
pub mod Descriptor
pub mod Take
pub mod Calls
