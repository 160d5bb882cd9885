pub mod BlankLemmas
pub mod RecordLemmas
pub mod TextLemmas
pub mod ReportLemmas
