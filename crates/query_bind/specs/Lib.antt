pub mod Outcome
pub mod Faults
pub mod Bound
pub mod Codes
pub mod Lookup
pub mod inside
