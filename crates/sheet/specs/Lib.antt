pub mod Says
pub mod Fews
pub mod Held
pub mod Words
pub mod Gathering
pub mod Walk
pub mod Sheets
