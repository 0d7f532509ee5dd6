pub mod BlockLaws
mod UsedLaws
mod QueryExamples
