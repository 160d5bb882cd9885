pub mod FoundLemmas
pub mod OtherVersion
pub mod Unread
pub mod WholeRows
pub mod Rules
