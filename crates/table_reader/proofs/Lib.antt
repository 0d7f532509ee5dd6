pub mod RecordLaws
pub mod ColumnLaws
pub mod FaultLaws
pub mod HeaderLaws
pub mod FormLaws
pub mod TableLaws
