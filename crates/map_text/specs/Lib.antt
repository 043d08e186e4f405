pub mod Pieces
pub mod Facts
pub mod Drawing
pub mod Dump
pub mod Maps
