pub mod Cells
pub mod Columns
pub mod Tables
pub mod Chosen
pub mod Beside
pub mod Groups
pub mod inside
