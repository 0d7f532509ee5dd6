pub mod Words
pub mod Covering
pub mod Cells
pub mod CellLaws
