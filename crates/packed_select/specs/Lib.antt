pub mod TwoPieces
pub mod Banded
