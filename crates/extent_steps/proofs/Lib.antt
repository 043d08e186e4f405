pub mod Common
pub mod Images
pub mod NewSlabs
pub mod Dropping
