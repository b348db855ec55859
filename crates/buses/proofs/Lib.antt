pub mod Pieces
pub mod Locating
pub mod Joining
pub mod Marking
