pub mod Faults
pub mod Serving
