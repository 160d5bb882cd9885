pub mod Lookups
pub mod Standing
pub mod EachLemmas
pub mod Growing
pub mod Defined
pub mod VersionRow
pub mod Memory
