pub mod Numbers
pub mod Drives
pub mod Requests
pub mod Laws
