pub mod Made
pub mod Machines
