-- used by public contracts
pub mod Starts
pub mod Causes
pub mod Pairs
pub mod Words
pub mod Explanations
-- used only by private functions and loops
pub mod RowTexts
pub mod Walks
