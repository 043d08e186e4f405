pub mod Slabs
pub mod Large
