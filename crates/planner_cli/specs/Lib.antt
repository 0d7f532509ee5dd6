pub mod Status
pub mod Ends
pub mod Run
pub mod inside
