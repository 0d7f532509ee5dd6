-- What only private functions of this crate answer; the promises of `read_table` name none of it.
pub mod Growing
pub mod Reading
