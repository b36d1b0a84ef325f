pub mod Counting
pub mod Entered
pub mod Firsts
pub mod Numbers
pub mod Rooms
