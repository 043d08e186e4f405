mod PassParts
mod PassTurns
mod FreshPasses
pub mod Common
pub mod AllPasses
mod Closings
mod NewLocks
pub mod Crossing
