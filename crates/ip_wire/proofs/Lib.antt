pub mod Sums
pub mod Written
pub mod RoundTrips
