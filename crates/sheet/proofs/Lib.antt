pub mod Decoding
pub mod Filled
pub mod Steps
pub mod Taking
pub mod Walking
pub mod Whole
