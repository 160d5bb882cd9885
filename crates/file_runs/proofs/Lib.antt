mod FileLemmas
mod RunLemmas
