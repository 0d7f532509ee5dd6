pub mod Grouping
pub mod Opening
