pub mod State
pub mod Index
pub mod Steps
pub mod Morph
