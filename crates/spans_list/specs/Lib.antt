pub mod Turns
pub mod SetBits
pub mod SelectedWords
