pub mod Renamed
pub mod HeldRoots
pub mod Stages
pub mod Crashes
