pub mod Outcome
pub mod Faults
pub mod Codes
pub mod Content
pub mod Records
pub mod inside
