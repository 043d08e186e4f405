pub mod Candidates
pub mod Kept
pub mod Lives
pub mod LivesKept
pub mod SlabSet
pub mod Sparse
pub mod Unfit
