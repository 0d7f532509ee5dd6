pub mod ContentLaws
pub mod LikenessLaws
pub mod RowLaws
mod WholeLaws
mod Examples
