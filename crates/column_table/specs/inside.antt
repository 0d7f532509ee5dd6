pub mod Choosing
pub mod Labels
pub mod Lent
pub mod Pairs
