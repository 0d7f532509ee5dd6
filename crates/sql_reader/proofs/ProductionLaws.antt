-- The law of each production's reader, up to the query. Behind each stand the marks with which a phrase of it may go on.
use Rattle.std.proofs.Common.{◌≡◌, Bool, true, List, [], ◌∷◌, refl}
use Rattle.word_forms.specs.declared.keyword.Keyword.TheVariants as keyword
use Rattle.sql_lexer.specs.Lexing.{Lexeme}
use Rattle.sql_reader.specs.declared.mark.Mark.{Mark}
use Rattle.sql_reader.specs.declared.mark.Mark.TheVariants as mark
use Rattle.sql_reader.specs.Syntax.{Item, Source}
use Rattle.sql_reader.specs.Marks.{is_one_of}
use Rattle.sql_reader.specs.Phrases.{Is, One, Then}
use Rattle.sql_reader.specs.Readers.{Reading, give, one, bind}
use Rattle.sql_reader.specs.Rules.{Rule}
use Rattle.sql_reader.specs.Grammar.{op_in, literal_in, behind, listed, column, side, condition, conditions, over_column, count, aggregate, item, items, first_source, joined, begins_source, source, sources, filters, having, having_list, havings, group, grouped_by, grouping, ending, tail, query, make_query}
use Rattle.sql_reader.proofs.ReaderLaws.{IsReader, Starts, Follows, with_more, give-law, one-law, bind-law, one_then-law, alt-law, many-law, then-starts, or-starts, starts-wider, starts-follows, is-follows, or-follows, then-follows, many-follows}
use Rattle.sql_reader.proofs.MarkLaws.{are_apart, covers_all, apart, covers, wider_marks, mark-starts, some_mark, some_op, some_literal, some_function, op_marks, literal_marks, function_marks, op-starts, literal-starts, function-starts}

-- x { separator x }
behind-law : {X : Type 0} (p : Rule X) {more : Lexeme → Bool} (separator : Mark) → IsReader p.spells more p.read
    → IsReader (behind separator p).spells more (behind separator p).read
behind-law p separator law = one_then-law (some_mark separator) (λ _. law)

behind-starts : {X : Type 0} (p : Rule X) (separator : Mark) → Starts (behind separator p).spells (is_one_of (separator ∷ []))
behind-starts p separator = then-starts (mark-starts separator)

listed-law : {X : Type 0} (p : Rule X) (separator : Mark) (marks : List Mark) → IsReader p.spells (is_one_of marks) p.read
    → are_apart (separator ∷ []) marks ≡ true → covers_all (separator ∷ marks) (separator ∷ []) ≡ true
    → covers_all (separator ∷ marks) marks ≡ true
    → IsReader (listed separator p).spells (is_one_of (separator ∷ marks)) (listed separator p).read
listed-law {X} p separator marks law are_other takes_one takes_all =
    bind-law law
    (λ x. bind-law
    (many-law (behind separator p).spells (is_one_of (separator ∷ [])) (is_one_of marks) (behind separator p).read
    (behind-law p separator law) (behind-starts p separator) (is_one_of (separator ∷ marks)) (apart (separator ∷ []) marks are_other)
    (covers (separator ∷ marks) (separator ∷ []) takes_one) (covers (separator ∷ marks) marks takes_all))
    (λ xs. give-law (x ∷ xs) (is_one_of (separator ∷ marks))) (λ xs. is-follows (λ t fails. fails)))
    (λ x. then-follows (many-follows (behind-starts p separator) (apart (separator ∷ []) marks are_other) (λ t fails. fails))
    (λ xs. is-follows (covers (separator ∷ marks) marks takes_all)))

-- a phrase, of which nothing but the value is kept
given : {X Y : Type 0} {P : X → List Lexeme → Type 0} {p : List Lexeme → Reading X} {more : Lexeme → Bool} (f : X → Y) → IsReader P more p
    → IsReader (Then P (λ x. Is (f x))) more (bind p (λ x. give (f x)))
given {X} {Y} {P} {p} {more} f law = bind-law law (λ x. give-law (f x) more) (λ x. is-follows (λ t fails. fails))

-- col
abbrev pub column_more : List Mark
column_more = mark.Dot ∷ []

pub column-law : IsReader column.spells (is_one_of column_more) column.read
unfolding column
column-law = one_then-law (some_mark mark.Name) (λ first. alt-law
    (one_then-law (some_mark mark.Dot) (λ _. one_then-law (some_mark mark.Name) (λ name. give-law _ _)))
    (give-law _ _) (then-starts (mark-starts mark.Dot)) (is-follows (λ t fails. fails)))

pub column-starts : Starts column.spells (is_one_of (mark.Name ∷ []))
unfolding column
column-starts = then-starts (mark-starts mark.Name)

-- op, literal
op-law : IsReader (One op_in) (is_one_of column_more) (one op_in)
op-law = one-law op_in (is_one_of column_more) some_op

literal-law : IsReader (One literal_in) (is_one_of column_more) (one literal_in)
literal-law = one-law literal_in (is_one_of column_more) some_literal

-- col | literal
side-law : IsReader side.spells (is_one_of column_more) side.read
unfolding side
side-law = alt-law (given _ column-law) (given _ literal-law) (then-starts column-starts)
    (starts-follows (then-starts literal-starts) (apart literal_marks (mark.Name ∷ []) refl))

side-starts : Starts side.spells (is_one_of (mark.Name ∷ literal_marks))
unfolding side
side-starts = or-starts (starts-wider (then-starts column-starts) _ (wider_marks (mark.Name ∷ literal_marks) (mark.Name ∷ []) refl))
    (starts-wider (then-starts literal-starts) _ (wider_marks (mark.Name ∷ literal_marks) literal_marks refl))

-- cond
pub condition-law : IsReader condition.spells (is_one_of column_more) condition.read
unfolding condition
condition-law = bind-law column-law
    (λ left. bind-law op-law (λ op. given _ side-law)
    (λ op. starts-follows (then-starts side-starts) (apart (mark.Name ∷ literal_marks) column_more refl)))
    (λ left. starts-follows (then-starts op-starts) (apart op_marks column_more refl))

-- conds
abbrev pub conditions_more : List Mark
conditions_more = mark.Keyword keyword.And ∷ column_more

pub conditions-law : IsReader conditions.spells (is_one_of conditions_more) conditions.read
unfolding conditions
conditions-law = listed-law condition (mark.Keyword keyword.And) column_more condition-law refl refl refl

-- agg
over_column-law : IsReader over_column.spells (is_one_of column_more) over_column.read
unfolding over_column
over_column-law = one_then-law some_function (λ f. one_then-law (some_mark mark.Open) (λ _. bind-law column-law
    (λ c. one_then-law (some_mark mark.Close) (λ _. give-law _ _))
    (λ c. starts-follows (then-starts (mark-starts mark.Close)) (apart (mark.Close ∷ []) column_more refl))))

count-law : IsReader count.spells (is_one_of column_more) count.read
unfolding count
count-law = one_then-law (some_mark (mark.Keyword keyword.Count)) (λ word. one_then-law (some_mark mark.Open)
    (λ _. one_then-law (some_mark mark.Star) (λ _. one_then-law (some_mark mark.Close) (λ _. give-law _ _))))

abbrev pub aggregate_marks : List Mark
aggregate_marks = mark.Keyword keyword.Count ∷ function_marks

pub aggregate-law : IsReader aggregate.spells (is_one_of column_more) aggregate.read
unfolding aggregate count over_column
aggregate-law = alt-law count-law over_column-law (then-starts (mark-starts (mark.Keyword keyword.Count)))
    (starts-follows (then-starts function-starts) (apart function_marks (mark.Keyword keyword.Count ∷ []) refl))

aggregate-starts : Starts aggregate.spells (is_one_of aggregate_marks)
unfolding aggregate count over_column
aggregate-starts = or-starts
    (starts-wider (then-starts (mark-starts (mark.Keyword keyword.Count))) _ (wider_marks aggregate_marks (mark.Keyword keyword.Count ∷ []) refl))
    (starts-wider (then-starts function-starts) _ (wider_marks aggregate_marks function_marks refl))

-- item
pub item-law : IsReader item.spells (is_one_of column_more) item.read
unfolding item
item-law = alt-law (given _ column-law) aggregate-law (then-starts column-starts)
    (starts-follows aggregate-starts (apart aggregate_marks (mark.Name ∷ []) refl))

abbrev pub listed_more : List Mark
listed_more = mark.Comma ∷ column_more

items-law : IsReader items.spells (is_one_of listed_more) items.read
unfolding items
items-law = listed-law item mark.Comma column_more item-law refl refl refl

-- source
pub first_source-law : IsReader first_source.spells (is_one_of conditions_more) first_source.read
unfolding first_source
first_source-law = one_then-law (some_mark mark.Name) (λ name. give-law _ _)

joined-law : IsReader joined.spells (is_one_of conditions_more) joined.read
unfolding joined
joined-law = one_then-law (some_mark (mark.Keyword keyword.Join)) (λ _. one_then-law (some_mark mark.Name)
    (λ name. one_then-law (some_mark (mark.Keyword keyword.On)) (λ _. given _ conditions-law)))

pub source-law : IsReader source.spells (is_one_of conditions_more) source.read
unfolding source joined
source-law = alt-law (behind-law first_source mark.Comma first_source-law) joined-law (behind-starts first_source mark.Comma)
    (starts-follows (then-starts (mark-starts (mark.Keyword keyword.Join))) (apart (mark.Keyword keyword.Join ∷ []) (mark.Comma ∷ []) refl))

abbrev pub source_marks : List Mark
source_marks = mark.Comma ∷ mark.Keyword keyword.Join ∷ []

pub source-starts : Starts source.spells begins_source
unfolding source joined
source-starts = or-starts (starts-wider (behind-starts first_source mark.Comma) _ (wider_marks source_marks (mark.Comma ∷ []) refl))
    (starts-wider (then-starts (mark-starts (mark.Keyword keyword.Join))) _ (wider_marks source_marks (mark.Keyword keyword.Join ∷ []) refl))

-- name { source }
abbrev pub sources_more : List Mark
sources_more = mark.Comma ∷ mark.Keyword keyword.Join ∷ conditions_more

pub sources-law : IsReader sources.spells (is_one_of sources_more) sources.read
unfolding sources
sources-law = bind-law first_source-law
    (λ first. given _ (many-law source.spells begins_source (is_one_of conditions_more) source.read source-law source-starts (is_one_of sources_more)
    (apart source_marks conditions_more refl) (covers sources_more source_marks refl) (covers sources_more conditions_more refl)))
    (λ first. then-follows (many-follows source-starts (apart source_marks conditions_more refl) (λ t fails. fails))
    (λ more. is-follows (covers sources_more conditions_more refl)))

-- [ WHERE conds ]
abbrev pub where_more : List Mark
where_more = mark.Keyword keyword.Where ∷ conditions_more

pub where-law : IsReader filters.spells (is_one_of where_more) filters.read
unfolding filters
where-law = alt-law (one_then-law (some_mark (mark.Keyword keyword.Where)) (λ _. with_more conditions-law _ (covers where_more conditions_more refl)))
    (give-law _ _) (then-starts (mark-starts (mark.Keyword keyword.Where))) (is-follows (covers where_more (mark.Keyword keyword.Where ∷ []) refl))

-- having
pub having-law : IsReader having.spells (is_one_of column_more) having.read
unfolding having
having-law = bind-law aggregate-law
    (λ item. bind-law op-law (λ op. given _ literal-law)
    (λ op. starts-follows (then-starts literal-starts) (apart literal_marks column_more refl)))
    (λ item. starts-follows (then-starts op-starts) (apart op_marks column_more refl))

having_list-law : IsReader having_list.spells (is_one_of conditions_more) having_list.read
unfolding having_list
having_list-law = listed-law having (mark.Keyword keyword.And) column_more having-law refl refl refl

abbrev pub havings_more : List Mark
havings_more = mark.Keyword keyword.Having ∷ conditions_more

havings-law : IsReader havings.spells (is_one_of havings_more) havings.read
unfolding havings
havings-law = alt-law
    (one_then-law (some_mark (mark.Keyword keyword.Having)) (λ _. with_more having_list-law _ (covers havings_more conditions_more refl)))
    (give-law _ _) (then-starts (mark-starts (mark.Keyword keyword.Having))) (is-follows (covers havings_more (mark.Keyword keyword.Having ∷ []) refl))

-- [ GROUP BY .. ]
group-law : IsReader group.spells (is_one_of listed_more) group.read
unfolding group
group-law = listed-law column mark.Comma column_more column-law refl refl refl

abbrev pub grouping_more : List Mark
grouping_more = mark.Keyword keyword.Group ∷ mark.Comma ∷ havings_more

grouped_by-law : IsReader grouped_by.spells (is_one_of grouping_more) grouped_by.read
unfolding grouped_by havings
grouped_by-law = one_then-law (some_mark (mark.Keyword keyword.Group)) (λ _. one_then-law (some_mark (mark.Keyword keyword.By))
    (λ _. bind-law group-law
    (λ group. given _ (with_more havings-law (is_one_of grouping_more) (covers grouping_more havings_more refl)))
    (λ group. then-follows
    (or-follows
    (starts-follows (then-starts (mark-starts (mark.Keyword keyword.Having))) (apart (mark.Keyword keyword.Having ∷ []) listed_more refl))
    (is-follows (λ t fails. fails)))
    (λ having. is-follows (covers grouping_more listed_more refl)))))

pub grouping-law : IsReader grouping.spells (is_one_of grouping_more) grouping.read
unfolding grouping grouped_by
grouping-law = alt-law grouped_by-law (give-law _ _) (then-starts (mark-starts (mark.Keyword keyword.Group)))
    (is-follows (covers grouping_more (mark.Keyword keyword.Group ∷ []) refl))

-- [ ";" ]
end-law : (marks : List Mark) → covers_all marks (mark.Semicolon ∷ []) ≡ true → IsReader ending.spells (is_one_of marks) ending.read
unfolding ending
end-law marks all = alt-law (one_then-law (some_mark mark.Semicolon) (λ _. give-law _ _)) (give-law _ _) (then-starts (mark-starts mark.Semicolon))
    (is-follows (covers marks (mark.Semicolon ∷ []) all))

-- what stands behind the FROM list, and the query
abbrev pub query_more : List Mark
query_more = mark.Semicolon ∷ mark.Comma ∷ mark.Dot ∷ mark.Keyword keyword.Join ∷ mark.Keyword keyword.And ∷ mark.Keyword keyword.Where
    ∷ mark.Keyword keyword.Group ∷ mark.Keyword keyword.Having ∷ []

-- what stands behind may be a semicolon, or GROUP before it
end-follows : {X : Type 0} (x : X) (marks : List Mark) → are_apart (mark.Semicolon ∷ []) marks ≡ true → covers_all query_more marks ≡ true
    → Follows (Then ending.spells (λ _. Is x)) (is_one_of query_more) (is_one_of marks)
unfolding ending
end-follows x marks are_other all = then-follows
    (or-follows (starts-follows (then-starts (mark-starts mark.Semicolon)) (apart (mark.Semicolon ∷ []) marks are_other)) (is-follows (λ t fails. fails)))
    (λ _. is-follows (covers query_more marks all))

groups-follows : {X : Type 0} (f : _ → X) (marks : List Mark) → are_apart (mark.Keyword keyword.Group ∷ []) marks ≡ true
    → are_apart (mark.Semicolon ∷ []) marks ≡ true → covers_all query_more marks ≡ true
    → Follows (Then grouping.spells (λ groups. Then ending.spells (λ _. Is (f groups)))) (is_one_of query_more) (is_one_of marks)
unfolding grouping grouped_by
groups-follows f marks group semicolon all = then-follows
    (or-follows (starts-follows (then-starts (mark-starts (mark.Keyword keyword.Group))) (apart (mark.Keyword keyword.Group ∷ []) marks group))
    (is-follows (λ t fails. fails)))
    (λ groups. end-follows (f groups) marks semicolon all)

tail-law : (is : List Item) (ss : List Source) → IsReader (tail is ss).spells (is_one_of query_more) (tail is ss).read
unfolding tail
tail-law is ss = bind-law where-law
    (λ conds. bind-law grouping-law (λ groups. given _ (end-law query_more refl))
    (λ groups. end-follows (make_query is ss conds groups) grouping_more refl refl))
    (λ conds. groups-follows (λ groups. make_query is ss conds groups) where_more refl refl refl)

tail-follows : (is : List Item) (ss : List Source) → Follows (tail is ss).spells (is_one_of query_more) (is_one_of sources_more)
unfolding tail filters
tail-follows is ss = then-follows
    (or-follows (starts-follows (then-starts (mark-starts (mark.Keyword keyword.Where))) (apart (mark.Keyword keyword.Where ∷ []) sources_more refl))
    (is-follows (λ t fails. fails)))
    (λ conds. groups-follows (λ groups. make_query is ss conds groups) sources_more refl refl refl)

pub query-law : IsReader query.spells (is_one_of query_more) query.read
unfolding query
query-law = one_then-law (some_mark (mark.Keyword keyword.Select)) (λ _. bind-law items-law
    (λ items. one_then-law (some_mark (mark.Keyword keyword.From))
    (λ _. bind-law sources-law (λ sources. tail-law items sources) (λ sources. tail-follows items sources)))
    (λ items. starts-follows (then-starts (mark-starts (mark.Keyword keyword.From))) (apart (mark.Keyword keyword.From ∷ []) listed_more refl)))
