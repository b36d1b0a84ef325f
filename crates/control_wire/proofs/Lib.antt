pub mod Options
pub mod Messages
pub mod MessageTrips
