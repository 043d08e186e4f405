pub mod Heap
pub mod Sound
pub mod Image
pub mod State
pub mod Defects
pub mod Laws
