pub mod Names
pub mod PlanLine
pub mod Answer
pub mod CsvWriting
pub mod Report
