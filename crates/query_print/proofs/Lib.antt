pub mod PrintLaws
pub mod SpellLexing
pub mod SpellPhrases
pub mod SpellNumbers
pub mod SpellTokens
pub mod SpellParts
pub mod SpellQuery
