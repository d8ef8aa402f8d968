pub mod Bytes
pub mod Decide
pub mod Cuts
pub mod Contents
pub mod Sound
pub mod Complete
pub mod Exact
pub mod Samples
