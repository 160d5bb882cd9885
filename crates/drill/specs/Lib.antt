pub mod Turns
pub mod Floors
pub mod Scripts
pub mod Deliveries
pub mod ScriptLines
pub mod Steps
pub mod Ends
pub mod Drills
