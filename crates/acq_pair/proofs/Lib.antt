pub mod Open
pub mod Examples
