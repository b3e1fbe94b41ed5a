pub mod Shapes
pub mod Heads
pub mod Needed
pub mod WidthBytes
pub mod BlockParts
pub mod BlockByBlock
pub mod DeltasFault
