pub mod CellLaws
mod Examples
pub mod LockLaws
pub mod MemoLaws
pub mod OpenLaws
pub mod RowLaws
pub mod SealFacts
pub mod SmallLaws
