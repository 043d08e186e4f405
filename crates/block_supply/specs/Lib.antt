pub mod Supply
pub mod Kept
