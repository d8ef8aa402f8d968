pub mod Lists
pub mod Answers
