pub mod Convict
pub mod Rule
pub mod Deliveries
pub mod Alike
