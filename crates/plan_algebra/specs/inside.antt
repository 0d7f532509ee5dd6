-- What only private functions of this crate answer; the promises name none of it.
pub mod Building
pub mod Gathering
