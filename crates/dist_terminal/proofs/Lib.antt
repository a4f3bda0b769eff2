pub mod Ready
pub mod Arriving
pub mod Lengths
pub mod Filling
