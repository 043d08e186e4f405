pub mod Extents
pub mod Slabs
pub mod Held
