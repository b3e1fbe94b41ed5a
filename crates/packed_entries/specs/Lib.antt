pub mod NoneTooLarge
pub mod Digits
pub mod Packed
pub mod Filled
pub mod RoundTrip
pub mod GroupByGroup
