pub mod Encoding
pub mod Image
pub mod Decoding
pub mod Writes
pub mod Many
