pub mod SlabHeaders
pub mod Overlaps
pub mod Fitness
pub mod Stages
