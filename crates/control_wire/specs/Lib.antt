pub mod Datagram
pub mod Icmp
pub mod IcmpRoundTrip
pub mod Fits
pub mod Seq
pub mod Segment
pub mod Source
