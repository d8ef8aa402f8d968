pub mod Turns
pub mod Points
