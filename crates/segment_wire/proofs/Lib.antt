mod HeaderSums
pub mod Steps
pub mod Written
pub mod TcpTrips
pub mod UdpTrips
pub mod PacketTrips
pub mod PseudoSums
pub mod Controls
pub mod Bare
