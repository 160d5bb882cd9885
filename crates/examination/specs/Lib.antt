pub mod Causes
pub mod Differences
pub mod Findings
pub mod Standings
pub mod Words
