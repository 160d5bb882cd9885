pub mod Ranges
pub mod Later
pub mod Records
pub mod Replies
pub mod Sums
pub mod Alike
