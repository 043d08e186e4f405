pub mod Spacing
pub mod Least
