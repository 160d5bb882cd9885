pub mod Image
pub mod WritingOf
pub mod Decided
