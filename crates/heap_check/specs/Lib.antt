pub mod Heap
pub mod Sound
pub mod Slabs
pub mod Laws
pub mod Image
pub mod State
pub mod Formatted
pub mod Views
