pub mod Ends
pub mod Joins
pub mod Runs
pub mod Suspect
pub mod Unstarted
