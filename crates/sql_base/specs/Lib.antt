pub mod Columns
pub mod Queries
pub mod Effects
pub mod Ends
pub mod Causes
pub mod Unchanged
pub mod Making
pub mod Rowids
