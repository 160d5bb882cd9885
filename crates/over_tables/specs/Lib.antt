pub mod Causes
pub mod Drills
pub mod Faults
pub mod Opens
pub mod Refusals
