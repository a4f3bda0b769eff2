pub mod State
pub mod Asked
pub mod Told
pub mod Events
pub mod Submit
pub mod Message
pub mod Report
