pub mod Bits
pub mod Layers
pub mod Merged
