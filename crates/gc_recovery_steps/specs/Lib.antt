pub mod Kinds
pub mod Recovery
