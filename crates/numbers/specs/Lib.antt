pub mod Numbers
pub mod Values
pub mod Rounding
pub mod Ends
pub mod Fractions
pub mod Rows
pub mod Claims
