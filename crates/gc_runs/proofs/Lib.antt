pub mod Calls
pub mod Behind
pub mod Formatting
pub mod Made
pub mod Listing
pub mod Reported
