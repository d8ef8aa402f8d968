pub mod Faults
pub mod Content
pub mod Written
pub mod Fields
pub mod Reading
pub mod Theorem
