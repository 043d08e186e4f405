pub mod Names
pub mod Kinds
pub mod Nearly
pub mod OpenEntry
pub mod Parts
pub mod Recovery
