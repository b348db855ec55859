pub mod Back
pub mod Prefix
pub mod Reading
pub mod Runs
pub mod Spelt
pub mod Triples
pub mod Wording
pub mod Writing
