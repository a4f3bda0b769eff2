pub mod Forms
pub mod Hex
pub mod Numbers
pub mod Pages
pub mod Printing
pub mod Shown
pub mod Splitting
