pub mod HeldRoots
pub mod Holding
