pub mod Columns
pub mod Entries
pub mod Filing
pub mod Indexing
pub mod Known
