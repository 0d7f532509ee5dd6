mod AskedLaws
mod CeilingLaws
mod Examples
mod RootLaws
mod SetLaws
mod SupportLaws
mod TogetherLaws
