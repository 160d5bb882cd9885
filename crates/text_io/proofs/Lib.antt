pub mod Limits
pub mod Pieces
pub mod NumberLemmas
pub mod WordLemmas
