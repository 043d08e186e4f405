pub mod Faults
pub mod Recovered
