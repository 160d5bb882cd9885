pub mod Cards
pub mod Sessions
pub mod Files
