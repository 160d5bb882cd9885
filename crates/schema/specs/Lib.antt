pub mod Link
pub mod Left
pub mod MovesContents
pub mod Stores
pub mod Opening
pub mod Begun
pub mod Closing
