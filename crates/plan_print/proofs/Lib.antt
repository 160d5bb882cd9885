mod TextLemmas
pub mod PrintLemmas
