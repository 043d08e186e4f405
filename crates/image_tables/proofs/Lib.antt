pub mod Chunks
pub mod Places
pub mod Logs
pub mod Extents
pub mod Updates
pub mod Stores
pub mod Tables
pub mod Headers
