pub mod Checks
pub mod Anyone
