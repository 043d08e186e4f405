pub mod Entries
pub mod Bits
pub mod Making
pub mod Putting
pub mod Tables
