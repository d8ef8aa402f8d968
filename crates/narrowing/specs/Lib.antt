pub mod Tests
pub mod Passes
pub mod Algebra
pub mod PassLaws
