pub mod Cuts
pub mod Places
pub mod Sizes
pub mod RunByRun
pub mod ReadBack
