pub mod EscapeLemmas
pub mod Joining
