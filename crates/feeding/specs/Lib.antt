pub mod Cards
pub mod Feeds
pub mod Tries
pub mod Flaws
pub mod Events
pub mod Views
