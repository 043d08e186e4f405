pub mod Layout
pub mod Places
pub mod Header
pub mod Defect
pub mod Bytes
pub mod Image
pub mod Laws
