pub mod DayLemmas
pub mod Decisions
pub mod Handling
pub mod Running
mod Stopping
