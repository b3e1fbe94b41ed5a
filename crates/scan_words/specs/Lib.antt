pub mod Finding
pub mod Names
pub mod LookedUp
pub mod Numbers
pub mod DigitByDigit
pub mod Times
