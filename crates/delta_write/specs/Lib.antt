pub mod LeastWidth
pub mod Miniblocks
pub mod Differences
pub mod Deltas
pub mod Blocks
pub mod Sizes
pub mod FoundInPage
pub mod ReadBack
