pub mod Begun
pub mod Closed
pub mod Value
pub mod Passes
pub mod Rows
