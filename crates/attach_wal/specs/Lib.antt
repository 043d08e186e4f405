pub mod Entry
pub mod Wal
