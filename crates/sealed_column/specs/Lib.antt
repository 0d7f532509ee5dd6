pub mod Cells
pub mod Laws
pub mod Rows
pub mod Seal
pub mod SealLaws
pub mod inside
