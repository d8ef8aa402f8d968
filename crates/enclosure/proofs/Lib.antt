pub mod Turns
pub mod Nominals
pub mod Bridge
