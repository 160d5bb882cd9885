pub mod Html
pub mod Sheet
