pub mod Common
pub mod Arenas
pub mod Books
pub mod Leaving
pub mod NearlyDone
pub mod OpenEntries
pub mod Chains
pub mod Exact
