pub mod Feistel
pub mod Laws
