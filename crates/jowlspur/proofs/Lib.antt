pub mod Peeking
pub mod Parsing
pub mod Wording
