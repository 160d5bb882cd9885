pub mod BatchTexts
pub mod Texts
pub mod Changes
pub mod Raw
pub mod FileRows
