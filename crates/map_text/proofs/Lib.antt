pub mod Pieces
pub mod Classes
