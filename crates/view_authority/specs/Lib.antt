pub mod Authority
pub mod Breaches
