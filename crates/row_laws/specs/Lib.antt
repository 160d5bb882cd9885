pub mod RowValues
