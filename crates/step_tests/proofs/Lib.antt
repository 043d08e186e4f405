pub mod Common
pub mod Evens
pub mod Filling
pub mod Fresh
pub mod OneSlab
pub mod TakenClasses
