pub mod Laws
pub mod Steps
pub mod Same
pub mod Layers
pub mod Rules
