pub mod CardLemmas
pub mod ByRecordLemmas
pub mod SessionLemmas
pub mod RecordLemmas
pub mod Consuming
pub mod RowLemmas
pub mod FileLemmas
pub mod BatchLemmas
