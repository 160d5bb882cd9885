pub mod RecordLemmas
pub mod SessionLemmas
pub mod AccountLemmas
pub mod ChangeLemmas
pub mod StoreLemmas
