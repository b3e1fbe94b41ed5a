pub mod Rooms
pub mod Version
