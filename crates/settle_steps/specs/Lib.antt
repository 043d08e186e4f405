pub mod Settled
pub mod ClassBlocks
pub mod Moves
pub mod OldBlocks
pub mod Entries
