pub mod FreeSet
pub mod Runs
