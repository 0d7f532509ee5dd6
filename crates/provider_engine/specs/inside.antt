pub mod Choosing
pub mod Leaves
pub mod Operations
pub mod Sealing
