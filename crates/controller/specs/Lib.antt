pub mod State
pub mod Right
pub mod Law
pub mod Runs
