pub mod Unopened
pub mod Ending
pub mod Files
pub mod Places
pub mod Wal
