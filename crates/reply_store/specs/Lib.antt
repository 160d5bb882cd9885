pub mod Days
pub mod Effects
pub mod Handled
pub mod Runs
pub mod Stops
