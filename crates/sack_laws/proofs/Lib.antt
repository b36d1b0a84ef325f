pub mod Growing
pub mod Events
pub mod Heard
pub mod Boards
pub mod Twice
pub mod Deliveries
pub mod Steps
