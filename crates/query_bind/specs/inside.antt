-- What only private functions of this crate answer; the promises of `bind` name none of it.
pub mod Results
pub mod Gathered
pub mod Ranges
