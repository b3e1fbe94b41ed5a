pub mod MiniblockDeltas
pub mod PageEntries
pub mod EntriesInRange
