pub mod Clock
pub mod SecondsPassed
pub mod Picture
pub mod Sentence
