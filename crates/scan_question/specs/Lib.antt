pub mod Comparisons
pub mod Options
