pub mod Taking
pub mod Link
pub mod Founding
mod Adopting
mod Left
pub mod Knowing
