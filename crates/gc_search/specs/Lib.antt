pub mod Known
pub mod Claims
pub mod Pairs
pub mod Names
pub mod Image
pub mod Faults
