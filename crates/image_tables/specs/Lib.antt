pub mod Log
pub mod Extents
pub mod Forms
pub mod Tables
pub mod Updates
