pub mod Common
pub mod Stages
pub mod Sequences
pub mod ClassBlocks
pub mod OldBlocks
