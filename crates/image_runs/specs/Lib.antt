pub mod Checks
pub mod Recoveries
pub mod Migrations
pub mod Repairs
