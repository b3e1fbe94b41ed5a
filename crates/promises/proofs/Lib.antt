-- In the order of the chapter in specs/: theorems that rest on ones there which a wrong definition would make false.
pub mod DictionaryFaults
pub mod Dictionary
pub mod RunThere
pub mod OneRunFaults
pub mod OneRun
pub mod Pairs
pub mod SpansFaults
pub mod Stretches
pub mod Spans
pub mod Exported
pub mod Rooms
pub mod ThereAndBack
pub mod Codes
pub mod Counts
pub mod InTurn
