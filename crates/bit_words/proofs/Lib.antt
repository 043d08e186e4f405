pub mod Bits
pub mod Fills
