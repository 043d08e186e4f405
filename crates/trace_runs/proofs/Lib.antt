pub mod Each
pub mod Answers
pub mod Asked
pub mod Formatting
pub mod Journals
pub mod Listing
mod OneWay
mod Settled
pub mod Tellings
pub mod ThreadNumbers
