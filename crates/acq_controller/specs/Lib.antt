pub mod State
pub mod Request
pub mod Data
pub mod Told
pub mod Events
pub mod Asked
pub mod Report
