pub mod Hands
pub mod Numbers
pub mod Runs
pub mod Filing
