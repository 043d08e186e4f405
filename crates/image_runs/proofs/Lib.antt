pub mod Lines
pub mod Faults
pub mod Pieces
pub mod Migrations
pub mod Repairs
