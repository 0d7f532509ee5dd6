pub mod Outcome
pub mod Form
