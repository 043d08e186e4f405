pub mod Kept
pub mod NoneLoose
pub mod Parts
