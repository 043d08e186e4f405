pub mod Arenas
pub mod Answered
pub mod Journals
pub mod Runs
pub mod Told
pub mod Kept
