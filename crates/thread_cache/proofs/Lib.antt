pub mod Lists
pub mod Purges
pub mod Tables
