pub mod BlockRows
pub mod Masks
pub mod Ranges
pub mod StateUnits
pub mod Views
