pub mod Sides
pub mod Crash
pub mod Seek
pub mod Steps
