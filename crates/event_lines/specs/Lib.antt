pub mod Levels
pub mod Lines
pub mod Notes
pub mod Views
