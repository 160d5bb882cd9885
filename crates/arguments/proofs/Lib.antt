mod CommandLemmas
mod NumberLemmas
pub mod Refusing
mod TextLemmas
