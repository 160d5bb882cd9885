pub mod Words
pub mod Bytes
pub mod ImportLines
pub mod Observations
pub mod ConnectionLines
pub mod ServerLines
pub mod Openings
pub mod ObservedRuns
