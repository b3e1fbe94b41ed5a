pub mod Counts
pub mod Bitmaps
pub mod Trimmed
pub mod ScanEnds
