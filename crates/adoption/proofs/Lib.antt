mod Judging
pub mod Causes
mod Answered
mod Settled
mod Taken
mod Unwritten
