pub mod Filling
pub mod Changing
pub mod SameRows
pub mod Newly
pub mod OneImage
pub mod OneId
