pub mod Escapes
pub mod Texts
pub mod Sequences
pub mod Commands
pub mod MeaningLemmas
pub mod MeaningLists
pub mod Repeats
pub mod AlikeContents
