pub mod Chunks
pub mod Needless
pub mod Copies
pub mod Census
pub mod Room
