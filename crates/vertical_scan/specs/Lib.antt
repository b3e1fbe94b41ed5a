pub mod UnusedLanes
pub mod GoodColumn
pub mod Chosen
