pub mod Book
pub mod Entry
pub mod Log
pub mod Table
pub mod Live
