-- A query that whole tokens spell can be written.
use Rattle.std.proofs.Common.{◌≡◌, inl, inr, ℕ, ◌-◌, ◌≤◌, Bool, true, false, List, [], ◌∷◌, ◌++◌, length, take, drop, map, Option, Some, None, Result, Ok, Err, refl, sym, ap, subst, ◌∙◌, arith, length-append}
use Rattle.std.specs.Prelude.{All, IfSome, IfOk, slice_get, if◌then◌else◌}
use Rattle.std.proofs.lemmas.Bool.{eqb-true}
use Rattle.std.proofs.lemmas.List.{take_at, drop_at}
use Rattle.std.proofs.lemmas.List.Elements.{All-take, All-drop, All-head, All-nil, All-cons}
use Rattle.word_forms.specs.declared.keyword.Keyword.{Keyword}
use Rattle.word_forms.specs.declared.keyword.Keyword.TheVariants as keyword
use Rattle.word_forms.specs.Keywords.{keyword_of}
use Rattle.sql_lexer.specs.declared.token.TokenKind.{TokenKind}
use Rattle.sql_lexer.specs.declared.token.TokenKind.TheVariants as kind
use Rattle.sql_lexer.specs.declared.token.Token.{Token}
use Rattle.mq_base.specs.declared.refusal.Refusal.{Refusal}
use Rattle.sql_lexer.specs.Lexing.{Lexeme, lexeme, lexed}
use Rattle.sql_lexer.specs.Longest.{IsToken, IsInside, IsText}
use Rattle.sql_reader.specs.declared.mark.Mark.{Mark}
use Rattle.sql_reader.specs.declared.mark.Mark.TheVariants as mark
use Rattle.sql_reader.specs.declared.raw.RawQuery.{RawQuery}
use Rattle.sql_reader.specs.declared.refusal.SqlNo.{SqlNo}
use Rattle.sql_reader.specs.Marks.{word_mark_of, kind_mark, mark_of, mark_number, is_mark}
use Rattle.sql_reader.specs.Syntax.{Column, Literal, Number, Text, Col, Lit, Item, Plain, Aggregate, Count, Source, Having, Query, query_of}
use Rattle.sql_reader.specs.Phrases.{Is, One, Then, Or, Many}
use Rattle.sql_reader.specs.Grammar as grammar
use Rattle.sql_reader.specs.Rules.{Rule}
use Rattle.sql_reader.specs.Grammar.{marked, literal_marked, literal_in, number_in, inside_of, listed, Grouping, IsQuery}
use Rattle.sql_reader.specs.Reading.{IsRead}
use Rattle.sql_reader.specs.inside.Answers.{IsWhole, AreWhole}
use Rattle.sql_reader.specs.Writable.{IsName, IsNamed, IsPaired, IsWritableSide, IsWritableCondition, IsWritableItem, IsWritableSource, IsAnAggregate, IsWritableHaving, IsWritable}
use Rattle.sql_reader.proofs.TokenLaws.{text-marked, symbol-marks}

-- each value that whole tokens spell by the relation has the property
record Keeps {X : Type 0} (P : X → List Lexeme → Type 0) (W : X → Type 0) : Type 0 where
  pub keeps : (x : X) (ts : List Lexeme) → P x ts → All IsWhole ts → W x

-- any value has this one
abbrev Any : {X : Type 0} → X → Type 0
Any x = Unit {0}

front-whole : (front rest ts : List Lexeme) → ts ≡ front ++ rest → All IsWhole ts → All IsWhole front
front-whole front rest ts joined whole =
    subst (All IsWhole) (ap (take (length front)) joined ∙ take_at front rest (length front) refl) (All-take IsWhole (length front) ts whole)

rest-whole : (front rest ts : List Lexeme) → ts ≡ front ++ rest → All IsWhole ts → All IsWhole rest
rest-whole front rest ts joined whole =
    subst (All IsWhole) (ap (drop (length front)) joined ∙ drop_at front rest (length front) refl) (All-drop IsWhole (length front) ts whole)

is-keeps : {X : Type 0} {W : X → Type 0} (x : X) → W x → Keeps (Is x) W
is-keeps {X} {W} x has = record { keeps = λ y ts is whole. subst W (sym is.0) has }

one-keeps : {X : Type 0} {W : X → Type 0} {take : Lexeme → Option X} → ((t : Lexeme) (x : X) → take t ≡ Some x → IsWhole t → W x) → Keeps (One take) W
one-keeps {X} {W} {take} to = record {
  keeps = λ x ts is whole. to is.0 x is.2 (All-head IsWhole is.0 [] (subst (All IsWhole) is.1 whole));
}

any-keeps : {X : Type 0} {P : X → List Lexeme → Type 0} → Keeps P Any
any-keeps {X} {P} = record { keeps = λ x ts is whole. tt }

then-keeps : {X Y : Type 0} {P : X → List Lexeme → Type 0} {Q : X → Y → List Lexeme → Type 0} {V : X → Type 0} {W : Y → Type 0} → Keeps P V
    → ((x : X) → V x → Keeps (Q x) W) → Keeps (Then P Q) W
then-keeps {X} {Y} {P} {Q} {V} {W} first second = record {
  keeps = λ y ts is whole.
      (second is.value (first.keeps is.value is.front is.first (front-whole is.front is.rest ts is.joined whole))).keeps
      y is.rest is.second (rest-whole is.front is.rest ts is.joined whole);
}

or-keeps : {X : Type 0} {P Q : X → List Lexeme → Type 0} {W : X → Type 0} → Keeps P W → Keeps Q W → Keeps (Or P Q) W
or-keeps {X} {P} {Q} {W} first second = record { keeps = keeps }
  where
    keeps : (x : X) (ts : List Lexeme) → Or P Q x ts → All IsWhole ts → W x
    keeps x ts (inl is) whole = first.keeps x ts is whole
    keeps x ts (inr is) whole = second.keeps x ts is whole

all-keep : {X : Type 0} (P : X → List Lexeme → Type 0) (W : X → Type 0) → Keeps P W → (xs : List X) (ts : List Lexeme) → Many P xs ts → All IsWhole ts → All W xs
all-keep P W each [] ts is whole = All-nil W
all-keep P W each (x ∷ xs) ts is whole =
    All-cons W x xs (each.keeps x is.front is.first (front-whole is.front is.rest ts is.joined whole))
    (all-keep P W each xs is.rest is.second (rest-whole is.front is.rest ts is.joined whole))

many-keeps : {X : Type 0} {P : X → List Lexeme → Type 0} {W : X → Type 0} → Keeps P W → Keeps (Many P) (All W)
many-keeps {X} {P} {W} each = record { keeps = all-keep P W each }

-- x { separator x }
record AreSome {X : Type 0} (W : X → Type 0) (xs : List X) : Type 0 where
  pub some : 1 ≤ length xs
  pub all : All W xs

listed-keeps : {X : Type 0} (p : Rule X) {W : X → Type 0} (separator : Mark) → Keeps p.spells W → Keeps (listed separator p).spells (AreSome W)
listed-keeps {X} p {W} separator each = then-keeps each (λ x has. then-keeps (many-keeps (then-keeps any-keeps (λ _ _. each)))
    (λ xs all. is-keeps (x ∷ xs) (record { some = omega arith; all = All-cons W x xs has all })))

-- names
no_keyword : (k : Option Keyword) → mark_number (word_mark_of k) ≡ 0 → k ≡ None
no_keyword (Some k) is = absurd (omega arith)
no_keyword None is = refl

name-marked : (kind : TokenKind) (text : List ℕ) → IsToken kind text → mark_number (kind_mark kind text) ≡ 0 → IsName text
name-marked kind.Word text token is = record { word = token; no_keyword = no_keyword (keyword_of text) is }
name-marked kind.Number text token is = absurd (omega arith)
name-marked kind.Text text token is = absurd (omega arith)
name-marked kind.Symbol text token is = absurd (omega (arith, (symbol-marks text).above))

name-taken : (t x : Lexeme) → marked mark.Name t ≡ Some x → IsWhole t → IsName x.text
name-taken t x is whole = by_test (is_mark mark.Name t) refl is
  where
    by_test : (b : Bool) → is_mark mark.Name t ≡ b → (if b then Some t else None) ≡ Some x → IsName x.text
    by_test true named is =
        let same : t ≡ x = cc in
        subst (λ (y : Lexeme). IsName y.text) same (name-marked t.kind t.text whole (eqb-true (mark_number (mark_of t)) 0 named))
    by_test false other is = cc

name-keeps : Keeps grammar.name.spells (λ x. IsName x.text)
name-keeps = one-keeps name-taken

-- literals
inside-of : (text : List ℕ) (is : IsText text) → inside_of text ≡ is.inside
inside-of text is =
    let long : length text - 2 ≡ length is.inside = omega (arith, ap length is.spelled, length-append is.inside (39 ∷ [])) in
    ap (λ n. take n (drop 1 text)) long ∙ ap (λ bytes. take (length is.inside) (drop 1 bytes)) is.spelled ∙ take_at is.inside (39 ∷ []) (length is.inside) refl

text-paired : (text : List ℕ) → IsText text → IsInside (inside_of text)
text-paired text is = rw (inside-of text is) is.ends_none

literal-taken : (t : Lexeme) (l : Literal) → literal_in t ≡ Some l → IsWhole t → IsPaired l
literal-taken t l is whole = by_mark (mark_of t) refl is
  where
    by_mark : (m : Mark) → mark_of t ≡ m → literal_marked m t ≡ Some l → IsPaired l
    by_mark mark.Number has is = let same : Number (number_in t) ≡ l = cc in subst IsPaired same tt
    by_mark mark.Text has is = let same : Text (inside_of t.text) ≡ l = cc in subst IsPaired same (text-paired t.text (text-marked t.kind t.text whole has))
    by_mark _ has is = cc

literal-keeps : Keeps (One literal_in) IsPaired
literal-keeps = one-keeps literal-taken

-- the productions
column-keeps : Keeps grammar.column.spells IsNamed
unfolding grammar.column
column-keeps = then-keeps name-keeps (λ first named. or-keeps
    (then-keeps any-keeps (λ _ _. then-keeps name-keeps (λ name is. is-keeps (grammar.qualified first name) (record { name = is; table = named }))))
    (is-keeps (grammar.bare first) (record { name = named; table = tt })))

side-keeps : Keeps grammar.side.spells IsWritableSide
unfolding grammar.side
side-keeps = or-keeps (then-keeps column-keeps (λ c named. is-keeps (Col c) named)) (then-keeps literal-keeps (λ l paired. is-keeps (Lit l) paired))

condition-keeps : Keeps grammar.condition.spells IsWritableCondition
unfolding grammar.condition
condition-keeps = then-keeps column-keeps (λ left named. then-keeps any-keeps (λ op _. then-keeps side-keeps
    (λ right is. is-keeps (grammar.make_condition left op right) (record { left = named; right = is }))))

conditions-keep : Keeps grammar.conditions.spells (AreSome IsWritableCondition)
unfolding grammar.conditions
conditions-keep = listed-keeps grammar.condition (mark.Keyword keyword.And) condition-keeps

-- an aggregate that can be written
record IsWritableAggregate (x : Item) : Type 0 where
  pub aggregate : IsAnAggregate x
  pub item : IsWritableItem x

aggregate-keeps : Keeps grammar.aggregate.spells IsWritableAggregate
unfolding grammar.aggregate grammar.count grammar.over_column
aggregate-keeps = or-keeps
    (then-keeps any-keeps (λ word _. then-keeps any-keeps (λ _ _. then-keeps any-keeps (λ _ _. then-keeps any-keeps
    (λ _ _. is-keeps (Count word.at) (record { aggregate = tt; item = tt }))))))
    (then-keeps any-keeps (λ f _. then-keeps any-keeps (λ _ _. then-keeps column-keeps (λ c named. then-keeps any-keeps
    (λ _ _. is-keeps (Aggregate f.func c f.at) (record { aggregate = tt; item = named }))))))

item-keeps : Keeps grammar.item.spells IsWritableItem
unfolding grammar.item
item-keeps = or-keeps (then-keeps column-keeps (λ c named. is-keeps (Plain c) named))
    (record { keeps = λ x ts is whole. (aggregate-keeps.keeps x ts is whole).item })

-- a source that can be written and has no conditions
record IsAlone (s : Source) : Type 0 where
  pub source : IsWritableSource s
  pub alone : s.on ≡ []

first_source-keeps : Keeps grammar.first_source.spells IsAlone
unfolding grammar.first_source
first_source-keeps = then-keeps name-keeps (λ name named. is-keeps (grammar.make_source name [])
    (record { source = record { table = named; on = All-nil IsWritableCondition }; alone = refl }))

source-keeps : Keeps grammar.source.spells IsWritableSource
unfolding grammar.source grammar.joined
source-keeps = or-keeps
    (then-keeps any-keeps (λ _ _. record { keeps = λ x ts is whole. (first_source-keeps.keeps x ts is whole).source }))
    (then-keeps any-keeps (λ _ _. then-keeps name-keeps (λ name named. then-keeps any-keeps (λ _ _. then-keeps conditions-keep
    (λ on has. is-keeps (grammar.make_source name on) (record { table = named; on = has.all }))))))

record AreWritableSources (sources : List Source) : Type 0 where
  pub some : 1 ≤ length sources
  pub all : All IsWritableSource sources
  pub first_alone : IfSome (slice_get sources 0) (λ s. s.on ≡ [])

sources-keep : Keeps grammar.sources.spells AreWritableSources
unfolding grammar.sources
sources-keep = then-keeps first_source-keeps (λ first has. then-keeps (many-keeps source-keeps)
    (λ more all. is-keeps (first ∷ more) (record { some = omega arith; all = All-cons IsWritableSource first more has.source all; first_alone = has.alone })))

where-keeps : Keeps grammar.filters.spells (All IsWritableCondition)
unfolding grammar.filters
where-keeps = or-keeps (then-keeps any-keeps (λ _ _. record { keeps = λ x ts is whole. (conditions-keep.keeps x ts is whole).all }))
    (is-keeps [] (All-nil IsWritableCondition))

having-keeps : Keeps grammar.having.spells IsWritableHaving
unfolding grammar.having
having-keeps = then-keeps aggregate-keeps (λ item has. then-keeps any-keeps (λ op _. then-keeps literal-keeps
    (λ literal paired. is-keeps (grammar.make_having item op literal) (record { aggregate = has.aggregate; item = has.item; literal = paired }))))

havings-keep : Keeps grammar.havings.spells (All IsWritableHaving)
unfolding grammar.havings grammar.having_list
havings-keep = or-keeps
    (then-keeps any-keeps (λ _ _. record {
      keeps = λ x ts is whole. ((listed-keeps grammar.having (mark.Keyword keyword.And) having-keeps).keeps x ts is whole).all;
    }))
    (is-keeps [] (All-nil IsWritableHaving))

record IsWritableGrouping (g : Grouping) : Type 0 where
  pub group : All IsNamed g.group
  pub having : All IsWritableHaving g.having
  pub grouped : g.group ≡ [] → g.having ≡ []

some-group : (group : List Column) (having : List Having) → 1 ≤ length group → group ≡ [] → having ≡ []
some-group [] having some none = absurd (omega arith)
some-group (c ∷ group) having some none = cc

grouping-keeps : Keeps grammar.grouping.spells IsWritableGrouping
unfolding grammar.grouping grammar.grouped_by grammar.group
grouping-keeps = or-keeps
    (then-keeps any-keeps (λ _ _. then-keeps any-keeps (λ _ _. then-keeps (listed-keeps grammar.column mark.Comma column-keeps) (λ group has. then-keeps havings-keep
    (λ having all. is-keeps (grammar.make_grouping group having)
    (record { group = has.all; having = all; grouped = some-group group having has.some }))))))
    (is-keeps (grammar.make_grouping [] []) (record { group = All-nil IsNamed; having = All-nil IsWritableHaving; grouped = λ none. refl }))

query-keeps : Keeps grammar.query.spells IsWritable
unfolding grammar.query grammar.tail grammar.items
query-keeps = then-keeps any-keeps (λ _ _. then-keeps (listed-keeps grammar.item mark.Comma item-keeps) (λ items has_items. then-keeps any-keeps
    (λ _ _. then-keeps sources-keep (λ sources has_sources. then-keeps where-keeps (λ conds all. then-keeps grouping-keeps
    (λ groups has_groups. then-keeps any-keeps (λ _ _. is-keeps (grammar.make_query items sources conds groups) (record {
      some_item = has_items.some;
      items = has_items.all;
      some_source = has_sources.some;
      sources = has_sources.all;
      first_alone = has_sources.first_alone;
      conds = all;
      group = has_groups.group;
      having = has_groups.having;
      grouped = has_groups.grouped;
    }))))))))

-- a query that whole tokens spell can be written
pub query-writable : (q : Query) (ts : List Lexeme) → IsQuery q ts → All IsWhole ts → IsWritable q
query-writable q ts is whole = query-keeps.keeps q ts is whole

-- and so can one that is read from a text
same_tokens : (r : Result (List Lexeme) Refusal) (xs ys : List Lexeme) → r ≡ Ok xs → r ≡ Ok ys → xs ≡ ys
same_tokens r xs ys first second = cc

pub answer-writable : (text : List ℕ) (ts : List Token) (result : Result RawQuery SqlNo) → lexed text ≡ Ok (map lexeme ts) → AreWhole ts
    → IsRead text result → IfOk result (λ q. IsWritable (query_of q))
answer-writable text ts (Ok q) lexes whole read =
    let same : map lexeme ts ≡ read.tokens = same_tokens (lexed text) (map lexeme ts) read.tokens lexes read.has_tokens in
    query-writable (query_of q) read.tokens read.reads.is_query (subst (All IsWhole) same whole)
answer-writable text ts (Err e) lexes whole read = tt
