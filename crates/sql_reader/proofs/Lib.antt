pub mod Examples
pub mod WritableLaws
pub mod LoopLaws
pub mod TokenLaws
pub mod OutcomeLaws
pub mod ProductionLaws
pub mod MarkLaws
pub mod ReaderLaws
