pub mod GrammarLemmas
pub mod StartLemmas
pub mod TextLemmas
pub mod PairLemmas
pub mod WalkLemmas
pub mod FoundLemmas
pub mod NamedLemmas
