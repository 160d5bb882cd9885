mod OptionLemmas
mod ReadLemmas
