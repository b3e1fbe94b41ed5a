pub mod Selected
pub mod GroupByGroup
pub mod Slots
pub mod SlotTests
pub mod Folded
pub mod Windows
