pub mod EntryLaws
pub mod PaddedLaws
pub mod Places
pub mod PricedLaws
