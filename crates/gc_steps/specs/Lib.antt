pub mod Roots
pub mod Slabs
pub mod Extents
