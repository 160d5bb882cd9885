pub mod Drop
pub mod Emptied
pub mod Gathered
pub mod DropAll
pub mod BytesLast
pub mod PutMeanings
pub mod PuttingRows
pub mod Several
mod Refilled
