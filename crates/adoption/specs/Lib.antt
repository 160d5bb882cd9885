pub mod Reading
pub mod EndsCommitted
pub mod Adopts
pub mod Faults
pub mod Taken
pub mod Causes
pub mod Unwritten
