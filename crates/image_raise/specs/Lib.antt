pub mod Rise
pub mod Front
