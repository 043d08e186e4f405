pub mod Changes
pub mod Common
pub mod Crashes
pub mod Roots
mod Runs
pub mod Sides
pub mod Stages
mod UnderWay
