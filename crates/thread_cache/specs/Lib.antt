pub mod Kept
pub mod Stacks
