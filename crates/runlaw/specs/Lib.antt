pub mod Numbers
pub mod Words
pub mod Sizes
pub mod Laws
pub mod Steps
pub mod Soundness
pub mod Endings
