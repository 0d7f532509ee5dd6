pub mod Profile
pub mod Steps
pub mod Runnable
pub mod View
pub mod Nodes
pub mod inside
