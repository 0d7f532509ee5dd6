-- To be read first: `Reading` says what `read_query` promises, `Grammar` has the productions that it rests on, and `Law`
-- says that reading by the grammar is right and unique. `Writable` says of which queries a text can be written.
pub mod Reading
pub mod Grammar
pub mod Law
pub mod Outcome
pub mod Codes
pub mod Syntax
pub mod Marks
pub mod Rules
pub mod Phrases
pub mod Readers
pub mod Writable
pub mod inside
