pub mod LooseBlocks
pub mod Premises
pub mod Outcomes
pub mod ExactSummaries
