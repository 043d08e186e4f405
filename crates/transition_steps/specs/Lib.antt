pub mod Classes
pub mod Transitions
