pub mod Knowing
pub mod Judging
pub mod Numbers
pub mod Tables
pub mod Tasks
