pub mod Found
pub mod Same
