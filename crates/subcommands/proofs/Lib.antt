mod FlushLemmas
pub mod RunLemmas
