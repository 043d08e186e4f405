pub mod Journals
pub mod Answered
