mod Common
mod Calls
mod ClosedJournals
mod Counting
mod PublishedLengths
mod ListedBlocks
