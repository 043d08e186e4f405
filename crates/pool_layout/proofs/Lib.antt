pub mod Layouts
pub mod Headers
pub mod Growing
pub mod Words
pub mod Images
pub mod OneImage
