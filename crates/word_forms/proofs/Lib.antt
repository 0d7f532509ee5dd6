pub mod IntegerLaws
pub mod KeywordLaws
