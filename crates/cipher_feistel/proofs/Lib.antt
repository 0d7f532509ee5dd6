pub mod Xored
pub mod Masks
pub mod Rounds
pub mod Blocks
pub mod CellLaws
