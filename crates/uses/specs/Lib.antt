pub mod Stack
pub mod Calls
pub mod Steps
pub mod Opening
pub mod Reopening
