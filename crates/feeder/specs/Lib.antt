pub mod Table
pub mod Views
pub mod Reading
pub mod World
pub mod ShopFloor
