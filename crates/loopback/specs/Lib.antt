pub mod Arriving
pub mod Asking
pub mod Drains
pub mod Faults
pub mod Rooms
pub mod Waits
