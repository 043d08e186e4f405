pub mod Shapes
pub mod Cells
pub mod Rows
pub mod Arenas
pub mod Page
