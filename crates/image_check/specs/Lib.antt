pub mod Faults
pub mod Totals
pub mod Laws
