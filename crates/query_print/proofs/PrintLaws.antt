-- How the text of a list grows by one item, and the same texts told in two ways.
use Rattle.std.proofs.Common.{◌≡◌, ◌<◌, ◌≤◌, ◌+◌, ◌-◌, ℕ, List, [], ◌∷◌, ◌++◌, map, take, drop, length, get_or, codes, subst, refl, sym, ap, ◌∙◌, append_assoc, length-drop, arith}
use Rattle.std.specs.Prelude.{All, IfSome, slice_get}
use Rattle.std.proofs.lemmas.List.{append-nil, take_all, take_more, map-append, length-map}
use Rattle.std.proofs.lemmas.List.Elements.{All-nil, All-cons, All-map}
use Rattle.std.proofs.lemmas.Simd.{map-map}
use Rattle.sql_reader.specs.declared.raw.RawCond.{RawCond}
use Rattle.sql_reader.specs.declared.raw.RawSource.{RawSource}
use Rattle.sql_reader.specs.declared.raw.RawCol.{RawCol}
use Rattle.sql_reader.specs.declared.raw.RawItem.{RawItem}
use Rattle.sql_reader.specs.declared.raw.RawHaving.{RawHaving}
use Rattle.sql_reader.specs.declared.raw.RawQuery.{RawQuery}
use Rattle.sql_reader.specs.Syntax.{column_of, condition_of, item_of, source_of, having_of, query_of}
use Rattle.query_print.specs.Spelling.{separated, column_text, condition_text, item_text, joined_text, source_text, more_sources_text, sources_text, where_text, group_text, having_text, havings_text, query_text}
use Rattle.sql_reader.specs.Writable.{IsWritable}
use Rattle.query_print.specs.inside.PrintParts.{followed, clause_text, IsConditionInRange, IsSourceInRange, IsHavingInRange, IsQueryInRange}

followed_push : (separator : List ℕ) (xs : List (List ℕ)) (x : List ℕ)
    → followed separator (xs ++ x ∷ []) ≡ followed separator xs ++ separator ++ x
followed_push separator [] x = append-nil (separator ++ x)
followed_push separator (y ∷ ys) x =
    ap (λ t. separator ++ y ++ t) (followed_push separator ys x) ∙ simp append_assoc

pub followed_more : {X : Type 0} (f : X → List ℕ) (separator : List ℕ) (xs : List X) (i : ℕ) (d : X) → i < length xs
    → followed separator (map f (take (i + 1) xs)) ≡ followed separator (map f (take i xs)) ++ separator ++ f (get_or xs i d)
followed_more f separator xs i d below =
    ap (λ ys. followed separator (map f ys)) (take_more xs i d below)
    ∙ ap (followed separator) (map-append f (take i xs) (get_or xs i d ∷ []))
    ∙ followed_push separator (map f (take i xs)) (f (get_or xs i d))

-- one turn of the loop: a separator and an item behind those before
pub put_more : {X : Type 0} (f : X → List ℕ) (separator : List ℕ) (xs : List X) (i : ℕ) (x : X) (old before between after : List ℕ)
    → i < length xs → x ≡ get_or xs i x → before ≡ old ++ followed separator (map f (take i xs))
    → between ≡ before ++ separator → after ≡ between ++ f x → after ≡ old ++ followed separator (map f (take (i + 1) xs))
put_more f separator xs i x old before between after below is past one two =
    let here : List ℕ = followed separator (map f (take i xs)) in
    let grouped : ((old ++ here) ++ separator) ++ f x ≡ old ++ ((here ++ separator) ++ f x) = simp append_assoc in
    two ∙ ap (λ t. t ++ f x) (one ∙ ap (λ t. t ++ separator) past) ∙ grouped
    ∙ ap (λ y. old ++ ((here ++ separator) ++ f y)) is ∙ ap (λ t. old ++ t) (sym (followed_more f separator xs i x below))

pub separated_cons : (separator x : List ℕ) (xs : List (List ℕ)) → separated separator (x ∷ xs) ≡ x ++ followed separator xs
separated_cons separator x [] = sym (append-nil x)
separated_cons separator x (y ∷ ys) =
    ap (λ t. x ++ separator ++ t) (separated_cons separator y ys) ∙ simp append_assoc

-- the conditions of ON as a clause
joined_text-clause : (table : List ℕ) (on : List RawCond) → (0 < length on)
    → joined_text table (map condition_of on)
    ≡ codes " JOIN " ++ table ++ clause_text (codes " ON ") (codes " AND ") (map (λ c. condition_text (condition_of c)) on)
joined_text-clause table [] some = absurd (omega arith)
joined_text-clause table (c ∷ on) some =
    ap (λ ts. codes " JOIN " ++ table ++ codes " ON " ++ separated (codes " AND ") (condition_text (condition_of c) ∷ ts))
    (map-map condition_text condition_of on)
    ∙ append_assoc (codes " JOIN " ++ table) (codes " ON ")
    (separated (codes " AND ") (condition_text (condition_of c) ∷ map (λ d. condition_text (condition_of d)) on))

-- the tables behind the first, with nothing before each
more_sources_text-followed : (sources : List RawSource)
    → more_sources_text (map source_of sources) ≡ followed [] (map (λ s. source_text (source_of s)) sources)
more_sources_text-followed [] = refl
more_sources_text-followed (s ∷ rest) = ap (λ t. source_text (source_of s) ++ t) (more_sources_text-followed rest)

-- the other clauses
where_text-clause : (conds : List RawCond)
    → where_text (map condition_of conds) ≡ clause_text (codes " WHERE ") (codes " AND ") (map (λ c. condition_text (condition_of c)) conds)
where_text-clause [] = refl
where_text-clause (c ∷ conds) =
    ap (λ ts. codes " WHERE " ++ separated (codes " AND ") (condition_text (condition_of c) ∷ ts)) (map-map condition_text condition_of conds)

group_text-clause : (group : List RawCol)
    → group_text (map column_of group) ≡ clause_text (codes " GROUP BY ") (codes ", ") (map (λ c. column_text (column_of c)) group)
group_text-clause [] = refl
group_text-clause (c ∷ group) =
    ap (λ ts. codes " GROUP BY " ++ separated (codes ", ") (column_text (column_of c) ∷ ts)) (map-map column_text column_of group)

havings_text-clause : (having : List RawHaving)
    → havings_text (map having_of having) ≡ clause_text (codes " HAVING ") (codes " AND ") (map (λ h. having_text (having_of h)) having)
havings_text-clause [] = refl
havings_text-clause (h ∷ having) =
    ap (λ ts. codes " HAVING " ++ separated (codes " AND ") (having_text (having_of h) ∷ ts)) (map-map having_text having_of having)

-- texts that are written one behind the other
written3 : (o0 o1 o2 o3 a b c : List ℕ) → o1 ≡ o0 ++ a → o2 ≡ o1 ++ b → o3 ≡ o2 ++ c → o3 ≡ o0 ++ (a ++ b ++ c)
written3 o0 o1 o2 o3 a b c one two three =
    let grouped : ((o0 ++ a) ++ b) ++ c ≡ o0 ++ ((a ++ b) ++ c) = simp append_assoc in
    three ∙ ap (λ t. t ++ c) (two ∙ ap (λ t. t ++ b) one) ∙ grouped

-- all but the first
pub tail_whole : {X : Type 0} (xs : List X) → take (length xs - 1) (drop 1 xs) ≡ drop 1 xs
tail_whole xs = take_all (length xs - 1) (drop 1 xs) (omega (arith, length-drop 1 xs))

-- a list with its first item
pub put_first : {X : Type 0} (f : X → List ℕ) (separator : List ℕ) (xs : List X) (x : X) (old before after : List ℕ)
    → 1 ≤ length xs → x ≡ get_or xs 0 x → before ≡ old ++ f x → after ≡ before ++ followed separator (map f (take (length xs - 1) (drop 1 xs)))
    → after ≡ old ++ separated separator (map f xs)
put_first f separator [] x old before after some is one two = absurd (omega arith)
put_first f separator (y ∷ ys) x old before after some is one two =
    two ∙ ap (λ zs. before ++ followed separator (map f zs)) (tail_whole (y ∷ ys))
    ∙ ap (λ t. t ++ followed separator (map f ys)) (one ∙ ap (λ z. old ++ f z) is)
    ∙ append_assoc old (f y) (followed separator (map f ys)) ∙ ap (λ t. old ++ t) (sym (separated_cons separator (f y) (map f ys)))

-- a table that is joined
pub put_on : (table : List ℕ) (on : List RawCond) (o0 o1 o2 o3 : List ℕ) → 0 < length on → o1 ≡ o0 ++ codes " JOIN " → o2 ≡ o1 ++ table
    → o3 ≡ o2 ++ clause_text (codes " ON ") (codes " AND ") (map (λ c. condition_text (condition_of c)) on)
    → o3 ≡ o0 ++ joined_text table (map condition_of on)
put_on table on o0 o1 o2 o3 some one two three =
    written3 o0 o1 o2 o3 (codes " JOIN ") table _ one two three ∙ ap (λ t. o0 ++ t) (sym (joined_text-clause table on some))

-- the tables
pub put_tables : (sources : List RawSource) (s : RawSource) (old before after : List ℕ) → 1 ≤ length sources → s ≡ get_or sources 0 s
    → before ≡ old ++ s.table.now → after ≡ before ++ followed [] (map (λ t. source_text (source_of t)) (take (length sources - 1) (drop 1 sources)))
    → after ≡ old ++ sources_text (map source_of sources)
put_tables [] s old before after some is one two = absurd (omega arith)
put_tables (first ∷ rest) s old before after some is one two =
    two ∙ ap (λ zs. before ++ followed [] (map (λ t. source_text (source_of t)) zs)) (tail_whole (first ∷ rest))
    ∙ ap (λ t. t ++ followed [] (map (λ t. source_text (source_of t)) rest)) (one ∙ ap (λ z. old ++ z.table.now) is)
    ∙ append_assoc old first.table.now (followed [] (map (λ t. source_text (source_of t)) rest))
    ∙ ap (λ t. old ++ (first.table.now ++ t)) (sym (more_sources_text-followed rest))

written7 : (o0 o1 o2 o3 o4 o5 o6 o7 a b c d e f g : List ℕ) → o1 ≡ o0 ++ a → o2 ≡ o1 ++ b → o3 ≡ o2 ++ c → o4 ≡ o3 ++ d → o5 ≡ o4 ++ e
    → o6 ≡ o5 ++ f → o7 ≡ o6 ++ g → o7 ≡ o0 ++ (a ++ b ++ c ++ d ++ e ++ f ++ g)
written7 o0 o1 o2 o3 o4 o5 o6 o7 a b c d e f g one two three four five six seven =
    let grouped : (o0 ++ (a ++ b ++ c)) ++ (d ++ e ++ f) ++ g ≡ o0 ++ (a ++ b ++ c ++ d ++ e ++ f ++ g) = simp append_assoc in
    seven ∙ ap (λ t. t ++ g) (written3 o3 o4 o5 o6 d e f four five six ∙ ap (λ t. t ++ (d ++ e ++ f)) (written3 o0 o1 o2 o3 a b c one two three))
    ∙ grouped

-- a whole query
pub put_whole : (q : RawQuery) (items : List RawItem) (sources : List RawSource) (conds : List RawCond) (group : List RawCol)
    (having : List RawHaving) (o0 o1 o2 o3 o4 o5 o6 o7 : List ℕ)
    → items ≡ q.items → sources ≡ q.sources → conds ≡ q.conds → group ≡ q.group → having ≡ q.having
    → o1 ≡ o0 ++ codes "SELECT " → o2 ≡ o1 ++ separated (codes ", ") (map (λ i. item_text (item_of i)) items) → o3 ≡ o2 ++ codes " FROM "
    → o4 ≡ o3 ++ sources_text (map source_of sources)
    → o5 ≡ o4 ++ clause_text (codes " WHERE ") (codes " AND ") (map (λ c. condition_text (condition_of c)) conds)
    → o6 ≡ o5 ++ clause_text (codes " GROUP BY ") (codes ", ") (map (λ c. column_text (column_of c)) group)
    → o7 ≡ o6 ++ clause_text (codes " HAVING ") (codes " AND ") (map (λ h. having_text (having_of h)) having)
    → o7 ≡ o0 ++ query_text (query_of q)
unfolding query_text
put_whole q items sources conds group having o0 o1 o2 o3 o4 o5 o6 o7 is_items is_sources is_conds is_group is_having
    one two three four five six seven =
    written7 o0 o1 o2 o3 o4 o5 o6 o7 (codes "SELECT ") (separated (codes ", ") (map item_text (map item_of q.items)))
    (codes " FROM ") (sources_text (map source_of q.sources)) (where_text (map condition_of q.conds)) (group_text (map column_of q.group))
    (havings_text (map having_of q.having)) one
    (two ∙ ap (λ ts. o1 ++ separated (codes ", ") ts)
    (ap (map (λ i. item_text (item_of i))) is_items ∙ sym (map-map item_text item_of q.items)))
    three
    (four ∙ ap (λ xs. o3 ++ sources_text (map source_of xs)) is_sources)
    (five ∙ ap (λ t. o4 ++ t) (sym (where_text-clause conds) ∙ ap (λ xs. where_text (map condition_of xs)) is_conds))
    (six ∙ ap (λ t. o5 ++ t) (sym (group_text-clause group) ∙ ap (λ xs. group_text (map column_of xs)) is_group))
    (seven ∙ ap (λ t. o6 ++ t) (sym (havings_text-clause having) ∙ ap (λ xs. havings_text (map having_of xs)) is_having))

-- the numbers of the tables' conditions, where the first has none
sources_in_range : (sources : List RawSource) → 1 ≤ length sources → IfSome (slice_get (map source_of sources) 0) (λ s. s.on ≡ [])
    → All (λ s. IsSourceInRange (source_of s)) (drop 1 sources) → All IsSourceInRange (map source_of sources)
sources_in_range [] some alone rest = absurd (omega arith)
sources_in_range (first ∷ rest) some alone all =
    All-cons IsSourceInRange (source_of first) (map source_of rest)
    (record { on = subst (All IsConditionInRange) (sym alone) (All-nil IsConditionInRange) })
    (All-map IsSourceInRange source_of rest all)

pub query_in_range : (q : RawQuery) (sources : List RawSource) (conds : List RawCond) (having : List RawHaving)
    → sources ≡ q.sources → conds ≡ q.conds → having ≡ q.having → IsWritable (query_of q)
    → All (λ s. IsSourceInRange (source_of s)) (drop 1 sources) → All (λ c. IsConditionInRange (condition_of c)) conds
    → All (λ h. IsHavingInRange (having_of h)) having → IsQueryInRange (query_of q)
query_in_range q sources conds having is_sources is_conds is_having writable in_sources in_conds in_having = record {
  sources = sources_in_range q.sources (omega (arith, writable.some_source, length-map q.sources source_of)) writable.first_alone
      (subst (λ xs. All (λ s. IsSourceInRange (source_of s)) (drop 1 xs)) is_sources in_sources);
  conds = subst (λ xs. All IsConditionInRange (map condition_of xs)) is_conds (All-map IsConditionInRange condition_of conds in_conds);
  having = subst (λ xs. All IsHavingInRange (map having_of xs)) is_having (All-map IsHavingInRange having_of having in_having);
}

pub source_in_range : (s : RawSource) → All (λ c. IsConditionInRange (condition_of c)) s.on → IsSourceInRange (source_of s)
source_in_range s on = record { on = All-map IsConditionInRange condition_of s.on on }
