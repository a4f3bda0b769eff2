pub mod State
pub mod Place
pub mod Receive
pub mod Transmit
pub mod Calls
