pub mod Layouts
pub mod Answered
