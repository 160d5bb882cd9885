pub mod Taken
pub mod Writing
pub mod Serving
pub mod Stays
pub mod BeginningLemmas
