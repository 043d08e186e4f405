pub mod Events
pub mod Log
