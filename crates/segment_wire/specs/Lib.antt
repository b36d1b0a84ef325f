pub mod Options
pub mod Tcp
pub mod Udp
pub mod Packet
pub mod RoundTrip
