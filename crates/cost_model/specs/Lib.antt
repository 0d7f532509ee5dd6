pub mod Costs
pub mod Estimates
pub mod Sizes
