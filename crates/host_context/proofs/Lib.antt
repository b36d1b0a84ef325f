pub mod Added
pub mod Puts
