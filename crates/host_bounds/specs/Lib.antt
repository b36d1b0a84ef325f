pub mod Bounding
pub mod Marking
