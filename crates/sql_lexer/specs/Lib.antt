pub mod Codes
pub mod Lexing
pub mod Longest
pub mod Slices
