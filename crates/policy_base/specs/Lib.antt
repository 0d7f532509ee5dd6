pub mod Accepted
pub mod Priced
pub mod Names
