pub mod FileRows
pub mod Parts
pub mod Raw
mod Totals
