pub mod Covered
pub mod Marked
pub mod Placed
pub mod CountedTurns
pub mod Values
