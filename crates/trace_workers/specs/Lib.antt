pub mod Workers
pub mod Lengths
pub mod Summaries
