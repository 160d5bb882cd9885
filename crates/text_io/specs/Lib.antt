pub mod Inputs
pub mod Written
pub mod Lines
pub mod Numbers
pub mod Stops
