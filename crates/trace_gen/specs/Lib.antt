pub mod Draws
pub mod Works
