pub mod Held
pub mod Packets
pub mod PacketLends
pub mod PacketsInside
pub mod Ranges
pub mod Ring
