pub mod Common
pub mod Stacks
pub mod Counted
pub mod Heaps
pub mod Carried
pub mod Pushing
pub mod Removing
pub mod Reopened
