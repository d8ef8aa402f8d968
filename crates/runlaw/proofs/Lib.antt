pub mod Sizes
pub mod Lists
pub mod Lawful
pub mod Runs
pub mod Endings
