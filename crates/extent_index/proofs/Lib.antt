pub mod Best
pub mod Changes
pub mod Members
pub mod Numbers
pub mod Rows
pub mod Searches
