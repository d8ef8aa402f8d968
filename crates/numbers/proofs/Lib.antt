pub mod Laws
pub mod Ring
pub mod Powers
pub mod Integers
pub mod Rounding
pub mod Ends
pub mod Fractions
