pub mod Rows
pub mod PlanLines
