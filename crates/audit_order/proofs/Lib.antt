pub mod Tested
pub mod SameLists
pub mod Pieces
pub mod RangeLemmas
pub mod OrderLemmas
pub mod LotLemmas
pub mod IdLemmas
