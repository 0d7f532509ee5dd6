mod Examples
pub mod PlaceLaws
pub mod SpanLaws
pub mod ViewLaws
pub mod TermLaws
pub mod EntryLaws
pub mod BoundLaws
pub mod LeastLaws
pub mod SpellLaws
pub mod ListLaws
pub mod GainLaws
pub mod CrossLaws
pub mod JobLaws
pub mod ReadyLaws
