pub mod Obeys
pub mod Tasks
