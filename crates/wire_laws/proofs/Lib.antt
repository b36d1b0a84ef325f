pub mod Fields
pub mod Dispatching
pub mod Comings
