pub mod Drop
pub mod Texts
pub mod Anew
pub mod Rows
pub mod PutTexts
pub mod Remakes
