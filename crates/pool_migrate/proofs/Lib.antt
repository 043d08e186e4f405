pub mod Made
pub mod Migrated
