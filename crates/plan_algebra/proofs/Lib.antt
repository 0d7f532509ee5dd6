mod BuildingLaws
pub mod ClassLaws
mod FamilyLaws
mod Examples
pub mod PlanLaws
mod TreeLaws
mod SmallLaws
mod StandLaws
mod CountLaws
mod UsesLaws
mod FormedLaws
mod GatherLaws
mod GroupedLaws
mod LeavesLaws
mod LeafTableLaws
mod MeaningLawsTables
mod MeaningExamples
mod MeaningLaws
pub mod VisibleLaws
