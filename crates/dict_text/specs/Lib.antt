pub mod Script
pub mod Calls
pub mod Lines
pub mod Report
pub mod Laws
