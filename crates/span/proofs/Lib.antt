pub mod Alike
pub mod Writing
