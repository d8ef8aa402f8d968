pub mod Making
pub mod Holding
pub mod Reached
pub mod Halves
pub mod Regions
pub mod Text
