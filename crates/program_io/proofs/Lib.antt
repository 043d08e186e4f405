pub mod Bytes
pub mod Reading
pub mod Whole
pub mod Sayings
