pub mod Spelling
pub mod Placeless
pub mod inside
