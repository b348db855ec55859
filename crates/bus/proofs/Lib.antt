pub mod Changing
pub mod Worsening
