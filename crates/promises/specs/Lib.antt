-- The chapter in reading order: what every answer promises, what every layout does, the layouts one by one, one run
-- asked for by itself, spans, what holds of each C function, one group of bit planes, what the writers write, the
-- examples. Theorems that rest on ones which a wrong definition of specs/ would make false stand in proofs/, in files of
-- the same names.
pub mod Promise
pub mod Equal
pub mod Fronts
pub mod Scans
pub mod Writes
pub mod NoFault
pub mod WhichFaults
pub mod Layouts
pub mod Writers
pub mod Bare
pub mod Unsigned
pub mod Signed
pub mod HorizontalFaults
pub mod Horizontal
pub mod VerticalFaults
pub mod Vertical
pub mod Runs
pub mod Delta
pub mod DictionaryFaults
pub mod RunThere
pub mod OneRunFaults
pub mod OneRun
pub mod Pairs
pub mod SpansFaults
pub mod Listed
pub mod Stretches
pub mod Conditions
pub mod Keeping
pub mod Spans
pub mod Calls
pub mod Exported
pub mod Planes
pub mod Rooms
pub mod ThereAndBack
pub mod NotRead
pub mod Handing
pub mod Codes
pub mod Counts
pub mod InTurn
pub mod RunWriterRules
pub mod DeltaWriterRules
pub mod Examples
