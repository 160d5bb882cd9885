pub mod HttpReplies
pub mod Values
pub mod Meaning
pub mod Commands
pub mod Laws
