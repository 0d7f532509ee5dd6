mod Examples
pub mod BreachLaws
