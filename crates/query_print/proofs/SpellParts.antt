-- Each part of a query that is written spells that part again, but for the places of its words.
use Rattle.std.proofs.Common.{◌≡◌, ℕ, ◌+◌, List, [], ◌∷◌, ◌++◌, map, length, codes, Option, Some, None, refl, sym, ap, ◌∙◌, append_assoc}
use Rattle.std.specs.Prelude.{All, IfSome}
use Rattle.word_forms.specs.declared.keyword.Keyword.TheVariants as keyword
use Rattle.mq_base.specs.declared.query.Agg.{Agg}
use Rattle.mq_base.specs.declared.query.CmpOp.{CmpOp}
use Rattle.sql_lexer.specs.Lexing.{Lexeme}
use Rattle.sql_reader.specs.declared.mark.Mark.{Mark}
use Rattle.sql_reader.specs.declared.mark.Mark.TheVariants as mark
use Rattle.sql_reader.specs.Syntax.{Column, Literal, Side, Col, Lit, Condition, Item, Plain, Aggregate, Count, Source, Having}
use Rattle.sql_reader.specs.Rules.{Rule}
use Rattle.sql_reader.specs.Grammar as grammar
use Rattle.sql_reader.specs.Grammar.{sign, Function, listed, bare, qualified, make_condition, make_source, make_having}
use Rattle.sql_reader.specs.Writable.{IsName, IsNamed, IsWritableSide, IsWritableCondition, IsWritableItem, IsWritableSource, IsAnAggregate, IsWritableHaving}
use Rattle.query_print.specs.Spelling.{separated, op_text, function_text, qualifier_text, column_text, literal_text, side_text, condition_text, conditions_text, item_text, joined_text, source_text, having_text}
use Rattle.query_print.specs.Placeless.{placeless_column, placeless_side, placeless_condition, placeless_item, placeless_source, placeless_having}
use Rattle.query_print.specs.inside.PrintParts.{followed, IsSideInRange, IsConditionInRange, IsSourceInRange, IsHavingInRange}
use Rattle.query_print.proofs.PrintLaws.{separated_cons}
use Rattle.query_print.proofs.SpellLexing.{Any, Breaks}
use Rattle.query_print.proofs.SpellPhrases.{Spells, spells_as, spells_none, spells_left, spells_right, spells_then, spells_end, spells_last, ends_breaking, joined, joined-breaks, all_head, all_tail, spells_many}
use Rattle.query_print.proofs.SpellTokens.{Untold, spells_name, spells_keyword, spells_between, spells_dot, spells_open, spells_close, spells_star, spells_comma, spells_op, spells_function, spells_literal}

-- a column
column_by : (table : Option (List ℕ)) (name : List ℕ) (place : ℕ) → IfSome table IsName → IsName name → (at : ℕ)
    → Spells grammar.column.spells (λ y. placeless_column y ≡ record { table = table; name = name; at = 0 }) Breaks at (qualifier_text table ++ name)
unfolding grammar.column
column_by None name place none named at =
    spells_end name (spells_name name named at)
    (λ x is. spells_right (spells_none Breaks (at + length name) (bare x) (ap (λ t. record { table = None; name = t; at = 0 }) is)))
column_by (Some table) name place qualifier named at =
    spells_as (table ++ (codes "." ++ name)) (table ++ codes "." ++ name) (sym (append_assoc table (codes ".") name))
    (spells_then table (codes "." ++ name) (spells_name table qualifier at)
    (λ x is. spells_left (spells_then (codes ".") name (spells_dot (at + length table))
    (λ dot any. spells_last (qualified x) name (spells_name name named (at + length table + 1)) (λ y is_name. both_names x y is is_name))
    (λ more ends. tt)))
    (λ more ends. refl))
  where
    both_names : (x y : Lexeme) → x.text ≡ table → y.text ≡ name
        → placeless_column (qualified x y) ≡ record { table = Some table; name = name; at = 0 }
    both_names x y is is_name =
        ap (λ t. record { table = Some t; name = y.text; at = 0 }) is ∙ ap (λ t. record { table = Some table; name = t; at = 0 }) is_name

pub spells_column : (c : Column) → IsNamed c → (at : ℕ)
    → Spells grammar.column.spells (λ y. placeless_column y ≡ placeless_column c) Breaks at (column_text c)
spells_column c named at = column_by c.table c.name c.at named.table named.name at

-- the right side of a comparison
spells_side : (s : Side) → IsWritableSide s → IsSideInRange s → (at : ℕ)
    → Spells grammar.side.spells (λ y. placeless_side y ≡ placeless_side s) Breaks at (side_text s)
unfolding grammar.side
spells_side (Col c) named fits at =
    spells_left (spells_last (λ d. Col d) (column_text c) (spells_column c named at) (λ d is. ap (λ e. Col e) is))
spells_side (Lit l) paired fits at =
    spells_right (spells_last (λ m. Lit m) (literal_text l) (spells_literal l paired fits at) (λ m is. ap (λ n. Lit n) is))

-- a condition that can be written, with its number within 64 bits
pub record GoodCondition (c : Condition) : Type 0 where
  pub writable : IsWritableCondition c
  pub in_range : IsConditionInRange c

spaced : (x o y : List ℕ) → x ++ codes " " ++ o ++ codes " " ++ y ≡ x ++ ((codes " " ++ (o ++ codes " ")) ++ y)
spaced x o y = simp append_assoc

same_condition : (c : Condition) (left : Column) (op : CmpOp) (right : Side) → placeless_column left ≡ placeless_column c.left → op ≡ c.op
    → placeless_side right ≡ placeless_side c.right → placeless_condition (make_condition left op right) ≡ placeless_condition c
same_condition c left op right is_left is_op is_right =
    ap (λ (x : Column). record { left = x; op = op; right = placeless_side right }) is_left
    ∙ ap (λ (o : CmpOp). record { left = placeless_column c.left; op = o; right = placeless_side right }) is_op
    ∙ ap (λ (s : Side). record { left = placeless_column c.left; op = c.op; right = s }) is_right

spells_condition : (c : Condition) → GoodCondition c → (at : ℕ)
    → Spells grammar.condition.spells (λ y. placeless_condition y ≡ placeless_condition c) Breaks at (condition_text c)
unfolding grammar.condition
spells_condition c good at =
    let left : List ℕ = column_text c.left in
    let op : List ℕ = codes " " ++ (op_text c.op ++ codes " ") in
    let right : List ℕ = side_text c.right in
    spells_as (left ++ (op ++ right)) (condition_text c) (sym (spaced left (op_text c.op) right))
    (spells_then left (op ++ right) (spells_column c.left good.writable.left at)
    (λ x is_left. spells_then op right (spells_op c.op (at + length left))
    (λ o is_op. spells_last (make_condition x o) right (spells_side c.right good.writable.right good.in_range.right (at + length left + length op))
    (λ y is_right. same_condition c x o y is_left is_op is_right))
    (λ more ends. tt))
    (λ more ends. refl))

-- a list with a separator between each two
followed-joined : {X : Type 0} (separator : List ℕ) (text : X → List ℕ) (xs : List X)
    → joined (λ x. separator ++ text x) xs ≡ followed separator (map text xs)
followed-joined separator text [] = refl
followed-joined separator text (x ∷ xs) = ap (λ t. separator ++ text x ++ t) (followed-joined separator text xs)

pub spells_listed : {X : Type 0} (k : Mark) (p : Rule X) (forget : X → X) (text : X → List ℕ) (Good : X → Type 0)
    (separator : List ℕ) → ((at : ℕ) → Spells (sign k).spells Untold Any at separator) → ((more : List ℕ) → Breaks (separator ++ more))
    → ((x : X) → Good x → (at : ℕ) → Spells p.spells (λ y. forget y ≡ forget x) Breaks at (text x))
    → (x : X) (xs : List X) → All Good (x ∷ xs) → (at : ℕ)
    → Spells (listed k p).spells (λ ys. map forget ys ≡ map forget (x ∷ xs)) Breaks at (separated separator (map text (x ∷ xs)))
spells_listed {X} k p forget text Good separator mark breaks each x xs good at =
    let behind : List ℕ = joined (λ y. separator ++ text y) xs in
    spells_as (text x ++ behind) (separated separator (map text (x ∷ xs)))
    (ap (λ t. text x ++ t) (followed-joined separator text xs) ∙ sym (separated_cons separator (text x) (map text xs)))
    (spells_then (text x) behind (each x (all_head Good x xs good) at)
    (λ y is. spells_last (λ ys. y ∷ ys) behind
    (spells_many forget (λ z. separator ++ text z) Good behind_breaks behind_each xs (all_tail Good x xs good) (at + length (text x)))
    (λ ys are. ap (λ z. z ∷ map forget ys) is ∙ ap (λ zs. forget x ∷ zs) are))
    (λ more ends. list_breaks xs more ends))
  where
    behind_breaks : (y : X) (more : List ℕ) → Breaks (separator ++ text y ++ more)
    behind_breaks y more = rw (append_assoc separator (text y) more) (breaks (text y ++ more))

    behind_each : (y : X) → Good y → (at : ℕ) → Spells (grammar.behind k p).spells (λ z. forget z ≡ forget y) Breaks at (separator ++ text y)
    behind_each y good at =
        spells_then separator (text y) (mark at) (λ m any. each y good (at + length separator)) (λ more ends. tt)

    list_breaks : (ys : List X) (more : List ℕ) → Breaks more → Breaks (joined (λ z. separator ++ text z) ys ++ more)
    list_breaks ys more ends = joined-breaks (λ z. separator ++ text z) behind_breaks ys more ends

pub spells_conditions : (c : Condition) (conds : List Condition) → All GoodCondition (c ∷ conds) → (at : ℕ)
    → Spells grammar.conditions.spells (λ ys. map placeless_condition ys ≡ map placeless_condition (c ∷ conds)) Breaks at (conditions_text (c ∷ conds))
unfolding grammar.conditions
spells_conditions c conds good at =
    spells_listed (mark.Keyword keyword.And) grammar.condition placeless_condition condition_text GoodCondition (codes " AND ")
    (spells_between keyword.And) (λ more. refl) spells_condition c conds good at

-- a function over a column, and the count
same_aggregate : (func : Agg) (c : Column) (f : Function) (d : Column) → f.func ≡ func → placeless_column d ≡ placeless_column c
    → placeless_item (Aggregate f.func d f.at) ≡ Aggregate func (placeless_column c) 0
same_aggregate func c f d is_func is_column =
    ap (λ g. Aggregate g (placeless_column d) 0) is_func ∙ ap (λ e. Aggregate func e 0) is_column

enclosed : (f c : List ℕ) → f ++ codes "(" ++ c ++ codes ")" ≡ f ++ (codes "(" ++ (c ++ codes ")"))
enclosed f c = simp append_assoc

spells_aggregate : (i : Item) → IsAnAggregate i → IsWritableItem i → (at : ℕ)
    → Spells grammar.aggregate.spells (λ y. placeless_item y ≡ placeless_item i) Breaks at (item_text i)
unfolding grammar.aggregate grammar.count grammar.over_column
spells_aggregate (Plain c) aggregate named at = absurd aggregate
spells_aggregate (Aggregate func c place) aggregate named at =
    let word : List ℕ = function_text func in
    let column : List ℕ = column_text c in
    spells_right (spells_as (word ++ (codes "(" ++ (column ++ codes ")"))) (word ++ codes "(" ++ column ++ codes ")") (sym (enclosed word column))
    (spells_then word (codes "(" ++ (column ++ codes ")")) (spells_function func at)
    (λ f is_func. spells_then (codes "(") (column ++ codes ")") (spells_open (at + length word))
    (λ o any. spells_then column (codes ")") (spells_column c named (at + length word + 1))
    (λ d is_column. ends_breaking (spells_last (λ z. Aggregate f.func d f.at) (codes ")") (spells_close (at + length word + 1 + length column))
    (λ z any. same_aggregate func c f d is_func is_column)))
    (λ more ends. refl))
    (λ more ends. tt))
    (λ more ends. refl)))
spells_aggregate (Count place) aggregate named at =
    spells_left (spells_then (codes "COUNT") (codes "(*)") (spells_keyword keyword.Count at)
    (λ word any. spells_then (codes "(") (codes "*)") (spells_open (at + 5))
    (λ o any. spells_then (codes "*") (codes ")") (spells_star (at + 5 + 1))
    (λ s any. ends_breaking (spells_last (λ z. Count word.at) (codes ")") (spells_close (at + 5 + 1 + 1)) (λ z any. refl)))
    (λ more ends. tt))
    (λ more ends. tt))
    (λ more ends. refl))

-- an item of a select list
pub spells_item : (i : Item) → IsWritableItem i → (at : ℕ)
    → Spells grammar.item.spells (λ y. placeless_item y ≡ placeless_item i) Breaks at (item_text i)
unfolding grammar.item
spells_item (Plain c) named at =
    spells_left (spells_last (λ d. Plain d) (column_text c) (spells_column c named at) (λ d is. ap (λ e. Plain e) is))
spells_item (Aggregate func c place) named at = spells_right (spells_aggregate (Aggregate func c place) tt named at)
spells_item (Count place) named at = spells_right (spells_aggregate (Count place) tt named at)

-- a condition of HAVING
pub record GoodHaving (h : Having) : Type 0 where
  pub writable : IsWritableHaving h
  pub in_range : IsHavingInRange h

same_having : (h : Having) (item : Item) (op : CmpOp) (literal : Literal) → placeless_item item ≡ placeless_item h.item → op ≡ h.op
    → literal ≡ h.literal → placeless_having (make_having item op literal) ≡ placeless_having h
same_having h item op literal is_item is_op is_literal =
    ap (λ (x : Item). record { item = x; op = op; literal = literal }) is_item
    ∙ ap (λ (o : CmpOp). record { item = placeless_item h.item; op = o; literal = literal }) is_op
    ∙ ap (λ (l : Literal). record { item = placeless_item h.item; op = h.op; literal = l }) is_literal

pub spells_having : (h : Having) → GoodHaving h → (at : ℕ)
    → Spells grammar.having.spells (λ y. placeless_having y ≡ placeless_having h) Breaks at (having_text h)
unfolding grammar.having
spells_having h good at =
    let item : List ℕ = item_text h.item in
    let op : List ℕ = codes " " ++ (op_text h.op ++ codes " ") in
    let literal : List ℕ = literal_text h.literal in
    spells_as (item ++ (op ++ literal)) (having_text h) (sym (spaced item (op_text h.op) literal))
    (spells_then item (op ++ literal) (spells_aggregate h.item good.writable.aggregate good.writable.item at)
    (λ x is_item. spells_then op literal (spells_op h.op (at + length item))
    (λ o is_op. spells_last (make_having x o) literal (spells_literal h.literal good.writable.literal good.in_range.literal (at + length item + length op))
    (λ y is_literal. same_having h x o y is_item is_op is_literal))
    (λ more ends. tt))
    (λ more ends. refl))

-- a table behind the first
pub record GoodSource (s : Source) : Type 0 where
  pub writable : IsWritableSource s
  pub in_range : IsSourceInRange s

pub good_conditions : (conds : List Condition) → All IsWritableCondition conds → All IsConditionInRange conds → All GoodCondition conds
good_conditions conds writable in_range = λ k d below. record { writable = writable k d below; in_range = in_range k d below }

pub spells_first_source : (table : List ℕ) → IsName table → (at : ℕ)
    → Spells grammar.first_source.spells (λ y. placeless_source y ≡ record { table = table; at = 0; on = [] }) Breaks at table
unfolding grammar.first_source
spells_first_source table named at =
    spells_last (λ x. make_source x []) table (spells_name table named at) (λ x is. ap (λ t. record { table = t; at = 0; on = [] }) is)

joined_by : (table : List ℕ) (on : List Condition) → IsName table → All GoodCondition on → (at : ℕ)
    → Spells grammar.source.spells (λ y. placeless_source y ≡ record { table = table; at = 0; on = map placeless_condition on }) Breaks at (joined_text table on)
unfolding grammar.source grammar.joined
joined_by table [] named good at =
    spells_left (spells_then (codes ", ") table (spells_comma at) (λ m any. spells_first_source table named (at + 2)) (λ more ends. tt))
joined_by table (c ∷ on) named good at =
    let join : List ℕ = codes " JOIN " in
    let word : List ℕ = codes " ON " in
    let conds : List ℕ = conditions_text (c ∷ on) in
    spells_right (spells_as (join ++ (table ++ (word ++ conds))) (join ++ table ++ word ++ conds) (sym (in_order join table word conds))
    (spells_then join (table ++ (word ++ conds)) (spells_between keyword.Join at)
    (λ m any. spells_then table (word ++ conds) (spells_name table named (at + 6))
    (λ x is. spells_then word conds (spells_between keyword.On (at + 6 + length table))
    (λ m any. spells_last (make_source x) conds (spells_conditions c on good (at + 6 + length table + 4)) (λ ys are. same_source x ys is are))
    (λ more ends. tt))
    (λ more ends. refl))
    (λ more ends. tt)))
  where
    in_order : (a b d e : List ℕ) → a ++ b ++ d ++ e ≡ a ++ (b ++ (d ++ e))
    in_order a b d e = simp append_assoc

    same_source : (x : Lexeme) (ys : List Condition) → x.text ≡ table → map placeless_condition ys ≡ map placeless_condition (c ∷ on)
        → placeless_source (make_source x ys) ≡ record { table = table; at = 0; on = map placeless_condition (c ∷ on) }
    same_source x ys is are =
        ap (λ t. record { table = t; at = 0; on = map placeless_condition ys }) is
        ∙ ap (λ zs. record { table = table; at = 0; on = zs }) are

pub spells_source : (s : Source) → GoodSource s → (at : ℕ)
    → Spells grammar.source.spells (λ y. placeless_source y ≡ placeless_source s) Breaks at (source_text s)
spells_source s good at = joined_by s.table s.on good.writable.table (good_conditions s.on good.writable.on good.in_range.on) at
