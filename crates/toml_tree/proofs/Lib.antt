pub mod FormLaws
pub mod TreeLaws
