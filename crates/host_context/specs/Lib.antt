pub mod Facts
pub mod Layer
pub mod Outbox
pub mod Words
