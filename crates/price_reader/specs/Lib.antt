pub mod Outcome
pub mod Codes
pub mod Faults
pub mod Shape
pub mod inside
