mod ArrivedLemmas
mod PlaceLemmas
