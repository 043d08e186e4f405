pub mod Arena
pub mod Claims
pub mod Headers
pub mod OpenWords
pub mod Pairs
pub mod Claimed
pub mod Roots
pub mod Stray
