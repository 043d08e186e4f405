pub mod KeyRoots
pub mod Numbers
pub mod Kept
