-- A query that can be written, with each number within 64 bits, is read back from its canonical spelling.
use Rattle.std.proofs.Common.{◌≡◌, ℕ, ◌+◌, ◌≤◌, List, [], ◌∷◌, ◌++◌, map, length, codes, Ok, refl, sym, ap, ◌∙◌, arith, append_assoc}
use Rattle.std.specs.Prelude.{All, IfSome, slice_get}
use Rattle.std.proofs.lemmas.List.{append-nil}
use Rattle.word_forms.specs.declared.keyword.Keyword.TheVariants as keyword
use Rattle.sql_lexer.specs.Lexing.{Lexeme, lexed, lexed_from}
use Rattle.sql_lexer.proofs.Steps.{lexed_from-end}
use Rattle.sql_lexer.proofs.Turns.{behind}
use Rattle.sql_reader.specs.declared.mark.Mark.TheVariants as mark
use Rattle.sql_reader.specs.Syntax.{Column, Condition, Item, Source, Having, Query}
use Rattle.sql_reader.specs.Grammar as grammar
use Rattle.sql_reader.specs.Grammar.{Grouping, make_grouping, make_query, IsQuery}
use Rattle.sql_reader.specs.Writable.{IsNamed, IsWritableItem, IsWritable}
use Rattle.query_print.specs.Spelling.{separated, column_text, item_text, source_text, more_sources_text, sources_text, conditions_text, where_text, group_text, having_text, havings_text, query_text}
use Rattle.query_print.specs.Placeless.{placeless_column, placeless_condition, placeless_item, placeless_source, placeless_having, placeless, ReadsBack}
use Rattle.query_print.specs.inside.PrintParts.{IsQueryInRange}
use Rattle.query_print.proofs.SpellLexing.{Breaks}
use Rattle.query_print.proofs.SpellPhrases.{Spells, spells_as, spells_none, spells_left, spells_right, spells_apart, spells_then, spells_end, spells_last, joined, joined-breaks, all_head, all_tail, spells_many}
use Rattle.query_print.proofs.SpellTokens.{Untold, spells_keyword, spells_between, spells_comma}
use Rattle.query_print.proofs.SpellParts.{spells_column, GoodCondition, good_conditions, spells_conditions, spells_listed, spells_item, GoodHaving, spells_having, GoodSource, spells_first_source, spells_source}
use Rattle.sql_reader.proofs.OutcomeLaws.{reads_once}

-- the tables
more_sources_text-joined : (sources : List Source) → joined source_text sources ≡ more_sources_text sources
more_sources_text-joined [] = refl
more_sources_text-joined (s ∷ rest) = ap (λ t. source_text s ++ t) (more_sources_text-joined rest)

source_breaks : (s : Source) (more : List ℕ) → Breaks (source_text s ++ more)
source_breaks s more = by_on s.table s.on
  where
    by_on : (table : List ℕ) (on : List Condition) → Breaks (Rattle.query_print.specs.Spelling.joined_text table on ++ more)
    by_on table [] = refl
    by_on table (c ∷ on) = refl

spells_sources : (s : Source) (rest : List Source) → s.on ≡ [] → All GoodSource (s ∷ rest) → (at : ℕ)
    → Spells grammar.sources.spells (λ ys. map placeless_source ys ≡ map placeless_source (s ∷ rest)) Breaks at (sources_text (s ∷ rest))
unfolding grammar.sources
spells_sources s rest alone good at =
    let first : GoodSource s = all_head GoodSource s rest good in
    spells_then s.table (more_sources_text rest) (spells_first_source s.table first.writable.table at)
    (λ y is. spells_last (λ ys. y ∷ ys) (more_sources_text rest)
    (spells_as (joined source_text rest) (more_sources_text rest) (more_sources_text-joined rest)
    (spells_many placeless_source source_text GoodSource source_breaks spells_source rest (all_tail GoodSource s rest good) (at + length s.table)))
    (λ ys are. ap (λ z. z ∷ map placeless_source ys) (is ∙ ap (λ zs. record { table = s.table; at = 0; on = map placeless_condition zs }) (sym alone))
    ∙ ap (λ zs. placeless_source s ∷ zs) are))
    (λ more ends. rw (← more_sources_text-joined rest) (joined-breaks source_text source_breaks rest more ends))

-- WHERE
spells_where : (conds : List Condition) → All GoodCondition conds → (at : ℕ)
    → Spells grammar.filters.spells (λ ys. map placeless_condition ys ≡ map placeless_condition conds) Breaks at (where_text conds)
unfolding grammar.filters
spells_where [] good at = spells_right (spells_none Breaks at [] refl)
spells_where (c ∷ conds) good at =
    spells_left (spells_then (codes " WHERE ") (conditions_text (c ∷ conds)) (spells_between keyword.Where at)
    (λ m any. spells_conditions c conds good (at + 7)) (λ more ends. tt))

-- HAVING
spells_havings : (having : List Having) → All GoodHaving having → (at : ℕ)
    → Spells grammar.havings.spells (λ ys. map placeless_having ys ≡ map placeless_having having) Breaks at (havings_text having)
unfolding grammar.havings grammar.having_list
spells_havings [] good at = spells_right (spells_none Breaks at [] refl)
spells_havings (h ∷ having) good at =
    spells_left (spells_then (codes " HAVING ") (separated (codes " AND ") (map having_text (h ∷ having))) (spells_between keyword.Having at)
    (λ m any. spells_listed (mark.Keyword keyword.And) grammar.having placeless_having having_text GoodHaving (codes " AND ")
    (spells_between keyword.And) (λ more. refl) spells_having h having good (at + 8)) (λ more ends. tt))

havings_breaks : (having : List Having) (more : List ℕ) → Breaks more → Breaks (havings_text having ++ more)
havings_breaks [] more ends = ends
havings_breaks (h ∷ having) more ends = refl

-- GROUP BY, with HAVING
record SameGroups (group : List Column) (having : List Having) (g : Grouping) : Type 0 where
  pub groups : map placeless_column g.group ≡ map placeless_column group
  pub havings : map placeless_having g.having ≡ map placeless_having having

spells_grouping : (group : List Column) (having : List Having) → All IsNamed group → All GoodHaving having → (group ≡ [] → having ≡ [])
    → (at : ℕ) → Spells grammar.grouping.spells (SameGroups group having) Breaks at (group_text group ++ havings_text having)
unfolding grammar.grouping grammar.grouped_by grammar.group
spells_grouping [] [] named good grouped at =
    spells_right (spells_none Breaks at (make_grouping [] []) (record { groups = refl; havings = refl }))
spells_grouping [] (h ∷ having) named good grouped at = absurd (cc (grouped refl))
spells_grouping (c ∷ group) having named good grouped at =
    let columns : List ℕ = separated (codes ", ") (map column_text (c ∷ group)) in
    let tail : List ℕ = havings_text having in
    spells_left (spells_as (codes " GROUP " ++ (codes "BY " ++ (columns ++ tail))) (group_text (c ∷ group) ++ tail)
    (sym (append_assoc (codes " GROUP BY ") columns tail))
    (spells_then (codes " GROUP ") (codes "BY " ++ (columns ++ tail)) (spells_between keyword.Group at)
    (λ m any. spells_then (codes "BY ") (columns ++ tail) (spells_apart (codes "BY") (λ more. refl) (spells_keyword keyword.By (at + 7)))
    (λ m any. spells_then columns tail
    (spells_listed mark.Comma grammar.column placeless_column column_text IsNamed (codes ", ") spells_comma (λ more. refl) spells_column c group named
    (at + 7 + 3))
    (λ cs groups. spells_last (make_grouping cs) tail (spells_havings having good (at + 7 + 3 + length columns))
    (λ hs havings. record { groups = groups; havings = havings }))
    (λ more ends. havings_breaks having more ends))
    (λ more ends. tt))
    (λ more ends. tt)))

grouping_breaks : (group : List Column) (having : List Having) (more : List ℕ) → Breaks more → Breaks (group_text group ++ havings_text having ++ more)
grouping_breaks [] having more ends = havings_breaks having more ends
grouping_breaks (c ∷ group) having more ends = refl

where_breaks : (conds : List Condition) (more : List ℕ) → Breaks more → Breaks (where_text conds ++ more)
where_breaks [] more ends = ends
where_breaks (c ∷ conds) more ends = refl

-- all behind the tables
same_query : (q : Query) (items : List Item) (sources : List Source) (conds : List Condition) (g : Grouping)
    → map placeless_item items ≡ map placeless_item q.items → map placeless_source sources ≡ map placeless_source q.sources
    → map placeless_condition conds ≡ map placeless_condition q.conds → SameGroups q.group q.having g
    → placeless (make_query items sources conds g) ≡ placeless q
same_query q items sources conds g is_items is_sources is_conds is_groups =
    ap (λ xs. five xs (map placeless_source sources) (map placeless_condition conds) (map placeless_column g.group) (map placeless_having g.having)) is_items
    ∙ ap (λ xs. five (map placeless_item q.items) xs (map placeless_condition conds) (map placeless_column g.group) (map placeless_having g.having)) is_sources
    ∙ ap (λ xs. five (map placeless_item q.items) (map placeless_source q.sources) xs (map placeless_column g.group) (map placeless_having g.having)) is_conds
    ∙ ap (λ xs. five (map placeless_item q.items) (map placeless_source q.sources) (map placeless_condition q.conds) xs (map placeless_having g.having))
    is_groups.groups
    ∙ ap (λ xs. five (map placeless_item q.items) (map placeless_source q.sources) (map placeless_condition q.conds) (map placeless_column q.group) xs)
    is_groups.havings
  where
    five : List Item → List Source → List Condition → List Column → List Having → Query
    five items sources conds group having = record { items = items; sources = sources; conds = conds; group = group; having = having }

-- a query that can be written, with its numbers within 64 bits
record GoodQuery (q : Query) : Type 0 where
  pub writable : IsWritable q
  pub sources : All GoodSource q.sources
  pub conds : All GoodCondition q.conds
  pub having : All GoodHaving q.having

good_query : (q : Query) → IsWritable q → IsQueryInRange q → GoodQuery q
good_query q writable in_range = record {
  writable = writable;
  sources = λ k d below. record { writable = writable.sources k d below; in_range = in_range.sources k d below };
  conds = good_conditions q.conds writable.conds in_range.conds;
  having = λ k d below. record { writable = writable.having k d below; in_range = in_range.having k d below };
}

spells_tail : (q : Query) (items : List Item) (sources : List Source) → GoodQuery q → map placeless_item items ≡ map placeless_item q.items
    → map placeless_source sources ≡ map placeless_source q.sources → (at : ℕ)
    → Spells (grammar.tail items sources).spells (λ y. placeless y ≡ placeless q) Breaks at (where_text q.conds ++ (group_text q.group ++ havings_text q.having))
unfolding grammar.tail grammar.ending
spells_tail q items sources good is_items is_sources at =
    let conds_text : List ℕ = where_text q.conds in
    let groups_text : List ℕ = group_text q.group ++ havings_text q.having in
    spells_then conds_text groups_text (spells_where q.conds good.conds at)
    (λ cs is_conds. spells_end groups_text
    (spells_grouping q.group q.having good.writable.group good.having good.writable.grouped (at + length conds_text))
    (λ gs is_groups. spells_last {S = Untold} (λ e. make_query items sources cs gs) []
    (spells_right (spells_none Breaks (at + length conds_text + length groups_text) tt tt))
    (λ e any. same_query q items sources cs gs is_items is_sources is_conds is_groups)))
    (λ more ends. grouping_breaks q.group q.having more ends)

tail_breaks : (q : Query) (more : List ℕ) → Breaks more → Breaks (where_text q.conds ++ (group_text q.group ++ havings_text q.having) ++ more)
tail_breaks q more ends =
    rw (append_assoc (where_text q.conds) (group_text q.group ++ havings_text q.having) more)
    (where_breaks q.conds (group_text q.group ++ havings_text q.having ++ more) (grouping_breaks q.group q.having more ends))

-- the select list
spells_items : (items : List Item) → 1 ≤ length items → All IsWritableItem items → (at : ℕ)
    → Spells grammar.items.spells (λ ys. map placeless_item ys ≡ map placeless_item items) Breaks at
    (separated (codes ", ") (map item_text items))
unfolding grammar.items
spells_items [] some writable at = absurd (omega arith)
spells_items (i ∷ items) some writable at =
    spells_listed mark.Comma grammar.item placeless_item item_text IsWritableItem (codes ", ") spells_comma (λ more. refl) spells_item i items writable at

spells_tables : (sources : List Source) → 1 ≤ length sources → IfSome (slice_get sources 0) (λ s. s.on ≡ []) → All GoodSource sources → (at : ℕ)
    → Spells grammar.sources.spells (λ ys. map placeless_source ys ≡ map placeless_source sources) Breaks at (sources_text sources)
spells_tables [] some alone good at = absurd (omega arith)
spells_tables (s ∷ rest) some alone good at = spells_sources s rest alone good at

in_order : (a b c d e f g : List ℕ) → a ++ b ++ c ++ d ++ e ++ f ++ g ≡ a ++ (b ++ (c ++ (d ++ (e ++ (f ++ g)))))
in_order a b c d e f g = simp append_assoc

-- the whole query
spells_query : (q : Query) → GoodQuery q → Spells grammar.query.spells (λ y. placeless y ≡ placeless q) Breaks 0 (query_text q)
unfolding query_text grammar.query
spells_query q good =
    let items : List ℕ = separated (codes ", ") (map item_text q.items) in
    let tables : List ℕ = sources_text q.sources in
    let tail : List ℕ = where_text q.conds ++ (group_text q.group ++ havings_text q.having) in
    spells_as (codes "SELECT " ++ (items ++ (codes " FROM " ++ (tables ++ tail)))) (query_text q)
    (sym (in_order (codes "SELECT ") items (codes " FROM ") tables (where_text q.conds) (group_text q.group) (havings_text q.having)))
    (spells_then (codes "SELECT ") (items ++ (codes " FROM " ++ (tables ++ tail)))
    (spells_apart (codes "SELECT") (λ more. refl) (spells_keyword keyword.Select 0))
    (λ m any. spells_then items (codes " FROM " ++ (tables ++ tail)) (spells_items q.items good.writable.some_item good.writable.items 7)
    (λ xs is_items. spells_then (codes " FROM ") (tables ++ tail) (spells_between keyword.From (7 + length items))
    (λ m any. spells_then tables tail (spells_tables q.sources good.writable.some_source good.writable.first_alone good.sources (7 + length items + 6))
    (λ ys is_sources. spells_tail q xs ys good is_items is_sources (7 + length items + 6 + length tables))
    (λ more ends. tail_breaks q more ends))
    (λ more ends. tt))
    (λ more ends. refl))
    (λ more ends. tt))

-- its tokens are all that the spelling has
whole_lexed : (text : List ℕ) (ts : List Lexeme) → lexed_from 0 0 (text ++ []) ≡ behind ts (lexed_from 0 (0 + length text) []) → lexed text ≡ Ok ts
unfolding lexed
whole_lexed text ts lexes =
    ap (lexed_from 0 0) (sym (append-nil text)) ∙ lexes ∙ ap (behind ts) (lexed_from-end (0 + length text) [] refl)
    ∙ ap (λ (xs : List Lexeme). Ok xs) (append-nil ts)

pub reads_back : (q : Query) → IsWritable q → IsQueryInRange q → ReadsBack q (query_text q)
reads_back q writable in_range =
    let spelled : Spells grammar.query.spells (λ y. placeless y ≡ placeless q) Breaks 0 (query_text q) = spells_query q (good_query q writable in_range) in
    let is_query : IsQuery spelled.value spelled.tokens = spelled.phrase in
    record {
      read = spelled.value;
      is_read = record {
        tokens = spelled.tokens;
        has_tokens = whole_lexed (query_text q) spelled.tokens (spelled.lexing.lexes [] tt);
        reads = record {
          is_query = is_query;
          only = λ other is_other. reads_once spelled.value other spelled.tokens is_query is_other;
        };
        in_range = spelled.in_range;
      };
      same = spelled.told;
    }
