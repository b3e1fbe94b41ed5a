pub mod Asked
pub mod Read
