pub mod Words
pub mod Streams
pub mod Inputs
pub mod Ends
