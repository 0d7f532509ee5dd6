mod CostLaws
mod CutLaws
mod EstimateLaws
mod Examples
mod TableLaws
mod UsedLaws
