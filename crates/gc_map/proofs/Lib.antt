pub mod Premises
pub mod Slabs
pub mod RootPlaces
pub mod Rows
pub mod SlabTallies
pub mod ClassBlocks
pub mod Exact
pub mod RootBlocks
