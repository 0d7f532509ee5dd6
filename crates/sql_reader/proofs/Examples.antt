-- What the grammar accepts, production by production, and where it refuses: computed, and carried over to the relations by
-- the laws of the readers.
use Rattle.std.proofs.Common.{◌≡◌, ℕ, pos, negsuc, List, [], ◌∷◌, map, Some, None, Result, Ok, Err, refl, subst, sym, ◌∙◌}
use Rattle.std.specs.Prelude.{codes}
use Rattle.std.proofs.lemmas.List.{append-nil}
use Rattle.word_forms.specs.Keywords.{keyword_of}
use Rattle.mq_base.specs.declared.query.Agg.TheVariants as agg
use Rattle.mq_base.specs.declared.query.CmpOp.TheVariants as cmp
use Rattle.mq_base.specs.declared.refusal.Refusal.{Refusal}
use Rattle.mq_base.specs.Refusal.{refusal}
use Rattle.sql_lexer.specs.Codes.{bad_char, open_text, unexpected, number_range}
use Rattle.sql_lexer.specs.Lexing.{Lexeme, front_of, lexed_from, lexed}
use Rattle.sql_reader.specs.Marks.{symbol_mark}
use Rattle.sql_reader.specs.Syntax.{Column, Number, Text, Col, Lit, Condition, Plain, Aggregate, Count, Source, Having}
use Rattle.sql_reader.specs.Grammar as grammar
use Rattle.sql_reader.specs.Grammar.{op_in, literal_in, IsQuery, make_grouping}
use Rattle.sql_reader.specs.Readers.{Reading, Took, many}
use Rattle.sql_reader.specs.Outcome.{query_outcome}
use Rattle.sql_reader.proofs.ReaderLaws.{IsReader, IsAt, Takes}
use Rattle.sql_reader.proofs.ProductionLaws.{column-law, aggregate-law, sources-law, where-law, grouping-law, query-law}

-- the tokens of a text that has them
abbrev found : Result (List Lexeme) Refusal → List Lexeme
found (Ok ts) = ts
found (Err told) = []

abbrev tokens_of : List ℕ → List Lexeme
tokens_of text = found (lexed text)

-- tokens that are all taken are a phrase
spelled : {X : Type 0} {P : X → List Lexeme → Type 0} {more : _} {p : List Lexeme → Reading X} → IsReader P more p → (ts : List Lexeme) (x : X)
    → p ts ≡ Took x [] → P x ts
spelled {X} {P} {more} {p} law ts x is =
    let took : Takes P p ts x [] = subst (IsAt P p ts) is (law.at ts) in subst (P x) (sym (took.joined ∙ append-nil took.front)) took.phrase

abbrev source_named : List ℕ → ℕ → List Condition → Source
source_named name at on = record { table = name; at = at; on = on }

abbrev column : List ℕ → ℕ → Column
column name at = record { table = None; name = name; at = at }

a_column : grammar.column.spells (column (codes "a") 0) (tokens_of (codes "a"))
unfolding grammar.column lexed lexed_from front_of keyword_of symbol_mark
a_column = spelled column-law _ _ refl

a_qualified_column : grammar.column.spells (record { table = Some (codes "r"); name = codes "a"; at = 1 }) (tokens_of (codes " r . a"))
unfolding grammar.column lexed lexed_from front_of keyword_of symbol_mark
a_qualified_column = spelled column-law _ _ refl

comparisons : map op_in (tokens_of (codes "= <> != < <= > >="))
    ≡ Some cmp.Eq ∷ Some cmp.Ne ∷ Some cmp.Ne ∷ Some cmp.Lt ∷ Some cmp.Le ∷ Some cmp.Gt ∷ Some cmp.Ge ∷ []
unfolding lexed lexed_from front_of keyword_of symbol_mark
comparisons = refl

literals : map literal_in (tokens_of (codes "07 -5 'a''b' '' a"))
    ≡ Some (Number (pos 7)) ∷ Some (Number (negsuc 4)) ∷ Some (Text (codes "a''b")) ∷ Some (Text []) ∷ None ∷ []
unfolding lexed lexed_from front_of keyword_of symbol_mark
literals = refl

-- the ends of 64 bits, and 0 for the numbers behind them
ends_of_numbers : map literal_in (tokens_of (codes "9223372036854775807 9223372036854775808 -9223372036854775808 -9223372036854775809"))
    ≡ Some (Number (pos 9223372036854775807)) ∷ Some (Number (pos 0)) ∷ Some (Number (negsuc 9223372036854775807)) ∷ Some (Number (pos 0)) ∷ []
unfolding lexed lexed_from front_of keyword_of symbol_mark
ends_of_numbers = refl

a_sum : grammar.aggregate.spells (Aggregate agg.Sum (column (codes "a") 4) 0) (tokens_of (codes "SUM(a)"))
unfolding grammar.aggregate grammar.over_column grammar.count grammar.column lexed lexed_from front_of keyword_of symbol_mark
a_sum = spelled aggregate-law _ _ refl

a_least : grammar.aggregate.spells (Aggregate agg.Min (column (codes "a") 4) 0) (tokens_of (codes "min(a)"))
unfolding grammar.aggregate grammar.over_column grammar.count grammar.column lexed lexed_from front_of keyword_of symbol_mark
a_least = spelled aggregate-law _ _ refl

a_greatest : grammar.aggregate.spells (Aggregate agg.Max (column (codes "a") 4) 0) (tokens_of (codes "mAx(a)"))
unfolding grammar.aggregate grammar.over_column grammar.count grammar.column lexed lexed_from front_of keyword_of symbol_mark
a_greatest = spelled aggregate-law _ _ refl

a_count : grammar.aggregate.spells (Count 0) (tokens_of (codes "count ( * )"))
unfolding grammar.aggregate grammar.over_column grammar.count grammar.column lexed lexed_from front_of keyword_of symbol_mark
a_count = spelled aggregate-law _ _ refl

abbrev equal : Column → Column → Condition
equal left right = record { left = left; op = cmp.Eq; right = Col right }

some_sources : grammar.sources.spells (source_named (codes "r") 0 [] ∷ source_named (codes "s") 2 []
    ∷ source_named (codes "t") 9 (equal (column (codes "a") 14) (column (codes "b") 16) ∷ equal (column (codes "c") 22) (column (codes "d") 24) ∷ []) ∷ [])
    (tokens_of (codes "r,s join t on a=b and c=d"))
unfolding grammar.sources grammar.first_source grammar.source grammar.joined many grammar.conditions grammar.condition grammar.side grammar.column lexed lexed_from front_of keyword_of symbol_mark
some_sources = spelled sources-law _ _ refl

a_filter : grammar.filters.spells (record { left = column (codes "a") 6; op = cmp.Lt; right = Lit (Text (codes "x")) } ∷ []) (tokens_of (codes "where a < 'x'"))
unfolding grammar.filters many grammar.conditions grammar.condition grammar.side grammar.column lexed lexed_from front_of keyword_of symbol_mark
a_filter = spelled where-law _ _ refl

no_filter : grammar.filters.spells [] []
unfolding grammar.filters
no_filter = spelled where-law _ _ refl

abbrev over_one : List Having
over_one = record { item = Count 20; op = cmp.Gt; literal = Number (pos 1) } ∷ record { item = Aggregate agg.Sum (column (codes "a") 39) 35; op = cmp.Ne; literal = Number (pos 2) } ∷ []

a_grouping : grammar.grouping.spells (make_grouping (column (codes "a") 9 ∷ column (codes "b") 11 ∷ []) over_one) (tokens_of (codes "group by a,b having count(*)>1 and sum(a)<>2"))
unfolding grammar.grouping grammar.grouped_by grammar.group grammar.havings grammar.having_list grammar.having grammar.aggregate grammar.count grammar.over_column many grammar.conditions grammar.condition grammar.side grammar.column lexed lexed_from front_of keyword_of symbol_mark
a_grouping = spelled grouping-law _ _ refl

no_grouping : grammar.grouping.spells (make_grouping [] []) []
unfolding grammar.grouping
no_grouping = spelled grouping-law _ _ refl

a_query : IsQuery (record { items = Plain (column (codes "a") 7) ∷ Count 9 ∷ []; sources = source_named (codes "r") 23 [] ∷ []; conds = []; group = []; having = [] })
    (tokens_of (codes "select a,count(*) from r;"))
unfolding grammar.query grammar.tail grammar.items grammar.item grammar.aggregate grammar.count grammar.over_column grammar.sources grammar.first_source grammar.source grammar.joined grammar.filters grammar.grouping grammar.grouped_by grammar.group grammar.havings grammar.having_list grammar.having grammar.ending many grammar.conditions grammar.condition grammar.side grammar.column lexed lexed_from front_of keyword_of symbol_mark
a_query = spelled query-law _ _ refl

-- the four refusals, lexical ones first and the range of numbers last
a_bad_character : query_outcome (codes "from #") ≡ Err (refusal bad_char 5 0)
unfolding query_outcome lexed lexed_from front_of keyword_of symbol_mark
a_bad_character = refl

an_open_text : query_outcome (codes "from 'x") ≡ Err (refusal open_text 5 0)
unfolding query_outcome lexed lexed_from front_of keyword_of symbol_mark
an_open_text = refl

an_unfinished_query : query_outcome (codes "select a from r where") ≡ Err (refusal unexpected 21 0)
unfolding query_outcome grammar.query grammar.tail grammar.items grammar.item grammar.aggregate grammar.count grammar.over_column grammar.sources grammar.first_source grammar.source grammar.joined grammar.filters grammar.grouping grammar.grouped_by grammar.group grammar.havings grammar.having_list grammar.having grammar.ending many grammar.conditions grammar.condition grammar.side grammar.column lexed lexed_from front_of keyword_of symbol_mark
an_unfinished_query = refl

a_keyword_as_name : query_outcome (codes "select from from r where a = 9223372036854775808") ≡ Err (refusal unexpected 7 0)
unfolding query_outcome grammar.query grammar.tail grammar.items grammar.item grammar.aggregate grammar.count grammar.over_column grammar.sources grammar.first_source grammar.source grammar.joined grammar.filters grammar.grouping grammar.grouped_by grammar.group grammar.havings grammar.having_list grammar.having grammar.ending many grammar.conditions grammar.condition grammar.side grammar.column lexed lexed_from front_of keyword_of symbol_mark
a_keyword_as_name = refl

a_wide_number : query_outcome (codes "select a from r where a = 9223372036854775808 and b = 9223372036854775809") ≡ Err (refusal number_range 26 0)
unfolding query_outcome grammar.query grammar.tail grammar.items grammar.item grammar.aggregate grammar.count grammar.over_column grammar.sources grammar.first_source grammar.source grammar.joined grammar.filters grammar.grouping grammar.grouped_by grammar.group grammar.havings grammar.having_list grammar.having grammar.ending many grammar.conditions grammar.condition grammar.side grammar.column lexed lexed_from front_of keyword_of symbol_mark
a_wide_number = refl
