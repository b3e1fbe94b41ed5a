pub mod Steps
pub mod EntryByEntry
pub mod TwoWritings
pub mod Octets
pub mod Writings
