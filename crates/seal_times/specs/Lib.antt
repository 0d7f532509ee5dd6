pub mod Cells
pub mod Costs
