pub mod Asked
pub mod Clusters
pub mod Keys
pub mod Laws
pub mod inside
