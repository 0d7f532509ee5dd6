-- What contracts inside the crate say. No promise of the top call cites these.
pub mod Unloaded
