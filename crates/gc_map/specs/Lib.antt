pub mod Slabs
pub mod GcRules
pub mod Places
pub mod Readings
