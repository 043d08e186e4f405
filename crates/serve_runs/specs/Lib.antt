pub mod Clerks
pub mod Sent
pub mod Signed
