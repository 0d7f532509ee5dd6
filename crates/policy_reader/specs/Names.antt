-- What a name is, and when names are the same. docs/FORMATS.md, "Policy file", says the rule, and "Query" lists the keywords.
use Rattle.std.specs.Prelude.{ℕ, Bool, not, ◌&&◌, nat_le, List, length, is_none, bytes_eq, codes}
use Rattle.word_forms.specs.Words.{is_word}
use Rattle.word_forms.specs.Keywords.{keyword_of}

-- whether the text is a name: a word of at most 32 bytes that is no keyword
abbrev pub is_name : List ℕ → Bool
is_name text = nat_le (length text) 32 && (is_word text && is_none (keyword_of text))

-- the subject of a rule that speaks of every subject without a rule of its own
abbrev pub any_subject : List ℕ
any_subject = codes "any"

-- whether the text is the name of a subject: `any` is none
abbrev pub is_subject_name : List ℕ → Bool
is_subject_name text = is_name text && not (bytes_eq text any_subject)
