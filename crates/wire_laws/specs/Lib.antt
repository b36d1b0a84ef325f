pub mod Fields
pub mod Survival
