pub mod Placing
pub mod Sending
pub mod Standing
