pub mod Firsts
pub mod Folds
pub mod Lists
pub mod Ranges
pub mod Sets
pub mod Sorting
