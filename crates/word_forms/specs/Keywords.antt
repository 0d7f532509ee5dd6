-- The keywords of a query. docs/FORMATS.md, "Query", lists them.
use Rattle.std.specs.Prelude.{ℕ, List, [], ◌∷◌, codes, find, Option}
use Rattle.std.specs.Str.{str_eq_ignore_ascii_case}
use Rattle.word_forms.specs.declared.keyword.Keyword.{Keyword}
use Rattle.word_forms.specs.declared.keyword.Keyword.TheVariants.{Select, From, Join, On, Where, And, Group, By, Having, Sum, Min, Max, Count}

-- the keywords
abbrev pub all_keywords : List Keyword
all_keywords =
    Select ∷ From ∷ Join ∷ On ∷ Where ∷ And ∷ Group ∷ By ∷ Having ∷ Sum ∷ Min ∷ Max ∷ Count ∷ []

-- how a keyword is written, in capitals
abbrev pub spelling : Keyword → List ℕ
spelling Select = codes "SELECT"
spelling From = codes "FROM"
spelling Join = codes "JOIN"
spelling On = codes "ON"
spelling Where = codes "WHERE"
spelling And = codes "AND"
spelling Group = codes "GROUP"
spelling By = codes "BY"
spelling Having = codes "HAVING"
spelling Sum = codes "SUM"
spelling Min = codes "MIN"
spelling Max = codes "MAX"
spelling Count = codes "COUNT"

-- the keyword that a text is, in any case of letters
unfoldable pub keyword_of : List ℕ → Option Keyword
keyword_of text = find (λ k. str_eq_ignore_ascii_case text (spelling k)) all_keywords
