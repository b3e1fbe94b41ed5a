pub mod IndexPage
pub mod IndexFaults
pub mod Large
pub mod IndexWindows
pub mod SomeEntry
