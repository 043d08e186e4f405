pub mod Disjoint
pub mod Entries
pub mod LargeEntries
