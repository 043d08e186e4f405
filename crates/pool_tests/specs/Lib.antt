pub mod CallsLeft
