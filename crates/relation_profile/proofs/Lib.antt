mod Examples
pub mod ViewLaws
pub mod WalkLaws
