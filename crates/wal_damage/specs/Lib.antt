pub mod Damage
pub mod Walks
pub mod Faults
