pub mod Rules
pub mod Cells
pub mod Facts
pub mod LogRules
pub mod Scans
pub mod Blocks
