pub mod Arguments
pub mod ScanAnswers
