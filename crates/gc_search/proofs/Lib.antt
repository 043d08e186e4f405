pub mod Premises
pub mod StateWords
pub mod Standing
pub mod ClaimLists
pub mod Sweeps
pub mod FirstPairs
pub mod Marks
pub mod Outcomes
