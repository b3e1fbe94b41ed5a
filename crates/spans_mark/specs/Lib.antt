pub mod Placed
pub mod Covers
pub mod Words
pub mod Marked
