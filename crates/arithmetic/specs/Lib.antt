pub mod Reaches
pub mod Inclusion
pub mod Facts
