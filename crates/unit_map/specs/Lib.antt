pub mod Blocks
pub mod Kept
pub mod Units
