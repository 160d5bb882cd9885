pub mod Names
pub mod Accounts
pub mod Values
pub mod Report
pub mod Answers
