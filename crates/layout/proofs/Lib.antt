pub mod Overlaps
pub mod PlaceLaws
pub mod Strips
pub mod Found
pub mod Loops
