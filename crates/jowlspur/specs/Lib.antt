pub mod Shelves
pub mod Printing
pub mod Wrongs
pub mod Carrying
pub mod Language
pub mod Starting
