pub mod Order
pub mod Remainders
pub mod Zigzags
pub mod Gaps
pub mod Raised
pub mod Reached
pub mod Entries
