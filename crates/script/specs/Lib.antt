pub mod Kinds
pub mod Laws
pub mod Lines
pub mod Numerals
pub mod Spelling
pub mod Showing
