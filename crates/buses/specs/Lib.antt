pub mod Image
pub mod Images
pub mod Fitting
pub mod Memory
pub mod Joined
pub mod Breaking
