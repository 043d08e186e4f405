pub mod Words
pub mod Rows
pub mod OneMeaning
pub mod CallLines
