-- What it says that rows of two kinds of cell belong together, and that an operation keeps it. A family relates the cells
-- of the two kinds, attribute by attribute. docs/MODEL.md, "Rows", tells it in prose.
use Rattle.std.specs.Prelude.{◌≡◌, ℕ, suc, ◌≤◌, Bool, true, false, List, [], ◌∷◌, length, map, filter, fold, ℤ, Option, Some, None}
use Rattle.base_laws.specs.Sets.{has}
use Rattle.mq_base.specs.declared.ids.AttrId.{AttrId}
use Rattle.mq_base.specs.declared.query.Agg.{Agg}
use Rattle.mq_base.specs.declared.query.CmpOp.{CmpOp}
use Rattle.mq_base.specs.declared.query.CmpOp.TheVariants as cmp
use Rattle.mq_base.specs.declared.query.Item.{Item}
use Rattle.mq_base.specs.declared.value.Value.{Value}
use Rattle.row_algebra.specs.Rows.{RowOf, cut, mapped, product}
use Rattle.row_algebra.specs.Tests.{Tests, passes_constant, passes_pair, passes_count, join}
use Rattle.row_algebra.specs.Groups.{function_of, grouped}
use Rattle.row_algebra.specs.Select.{selected}

-- neither is there, or both are and belong together
abbrev pub BothOr : {C D : Type 0} → (C → D → Type 0) → Option C → Option D → Type 0
BothOr R None None = Unit {0}
BothOr R None (Some d) = ⊥
BothOr R (Some c) None = ⊥
BothOr R (Some c) (Some d) = R c d

-- two lists of which the members at each place belong together
abbrev pub Beside : {X Y : Type 0} → (X → Y → Type 0) → List X → List Y → Type 0
Beside R [] [] = Unit {0}
Beside R [] (y ∷ ys) = ⊥
Beside R (x ∷ xs) [] = ⊥
Beside R (x ∷ xs) (y ∷ ys) = R x y × Beside R xs ys

-- two rows with the same count, of which the cells at each attribute belong together
pub record IsLike {C D : Type 0} (R : ℕ → C → D → Type 0) (u : RowOf C) (v : RowOf D) : Type 0 where
  pub cells : (a : ℕ) → BothOr (R a) (u.cell a) (v.cell a)
  pub count : u.count ≡ v.count

-- the rows of two lists belong together, one beside the other
abbrev pub AreLike : {C D : Type 0} → (ℕ → C → D → Type 0) → List (RowOf C) → List (RowOf D) → Type 0
AreLike R us vs = Beside (IsLike R) us vs

-- cells of an attribute that belong together by the first family do so by the second
abbrev pub LeadsAt : {C D : Type 0} → (ℕ → C → D → Type 0) → (ℕ → C → D → Type 0) → ℕ → Type 0
LeadsAt {C} {D} R Q a = (c : C) (d : D) → R a c d → Q a c d

-- both tests answer the same of two cells that belong together, compared with a constant
abbrev pub RespectsConstant : {C D : Type 0} → (ℕ → C → D → Type 0) → Tests C → Tests D → ℕ → CmpOp → Value → Type 0
RespectsConstant {C} {D} R left right a op value =
    (c : C) (d : D) → R a c d → left.constant a op value c ≡ right.constant a op value d

-- both tests answer the same of two pairs of cells that belong together, compared with each other
abbrev pub RespectsPair : {C D : Type 0} → (ℕ → C → D → Type 0) → Tests C → Tests D → ℕ → CmpOp → ℕ → Type 0
RespectsPair {C} {D} R left right a op b = (c : C) (d : D) (e : C) (f : D) → R a c d → R b e f
    → left.pair op c e ≡ right.pair op d f

-- what a function makes of at most so many cells that belong together by the first family does so by the second
abbrev pub RespectsFold : {C D : Type 0} → (ℕ → C → D → Type 0) → (ℕ → C → D → Type 0) → Tests C → Tests D → ℕ → ℕ → Agg
    → Type 0
RespectsFold {C} {D} R Q left right most a func = (c : C) (d : D) (cs : List C) (ds : List D) → R a c d
    → Beside (R a) cs ds → suc (length cs) ≤ most
    → Q a (fold (left.step func) c cs) (fold (right.step func) d ds)

-- each operation leads from rows that belong together to such rows: a selection by a constant
abbrev pub ConstantKeeps : {C D : Type 0} → (ℕ → C → D → Type 0) → Type 0
ConstantKeeps {C} {D} R = (left : Tests C) (right : Tests D) (a : ℕ) (op : CmpOp) (value : Value) (us : List (RowOf C))
    (vs : List (RowOf D)) → RespectsConstant R left right a op value → AreLike R us vs
    → AreLike R (filter (passes_constant left a op value) us) (filter (passes_constant right a op value) vs)

-- a selection by two attributes
abbrev pub PairKeeps : {C D : Type 0} → (ℕ → C → D → Type 0) → Type 0
PairKeeps {C} {D} R = (left : Tests C) (right : Tests D) (a : ℕ) (op : CmpOp) (b : ℕ) (us : List (RowOf C))
    (vs : List (RowOf D)) → RespectsPair R left right a op b → AreLike R us vs
    → AreLike R (filter (passes_pair left a op b) us) (filter (passes_pair right a op b) vs)

-- a selection by the count
abbrev pub CountKeeps : {C D : Type 0} → (ℕ → C → D → Type 0) → Type 0
CountKeeps {C} {D} R = (op : CmpOp) (number : ℤ) (us : List (RowOf C)) (vs : List (RowOf D)) → AreLike R us vs
    → AreLike R (filter (passes_count op number) us) (filter (passes_count op number) vs)

-- a cut, after which only the cells of the set have to belong together
abbrev pub CutKeeps : {C D : Type 0} → (ℕ → C → D → Type 0) → (ℕ → C → D → Type 0) → Type 0
CutKeeps {C} {D} R Q = (set : ℕ) (us : List (RowOf C)) (vs : List (RowOf D))
    → ((a : ℕ) → has set a ≡ true → LeadsAt R Q a) → AreLike R us vs
    → AreLike Q (map (cut set) us) (map (cut set) vs)

-- a product, of which each operand may have a family of its own
abbrev pub ProductKeeps : {C D : Type 0} → (ℕ → C → D → Type 0) → (ℕ → C → D → Type 0) → (ℕ → C → D → Type 0) → Type 0
ProductKeeps {C} {D} R S Q = (us : List (RowOf C)) (vs : List (RowOf D)) (more : List (RowOf C)) (others : List (RowOf D))
    → ((a : ℕ) → LeadsAt R Q a) → ((a : ℕ) → LeadsAt S Q a) → AreLike R us vs → AreLike S more others
    → AreLike Q (product us more) (product vs others)

-- a join
abbrev pub JoinKeeps : {C D : Type 0} → (ℕ → C → D → Type 0) → (ℕ → C → D → Type 0) → (ℕ → C → D → Type 0) → Type 0
JoinKeeps {C} {D} R S Q = (left : Tests C) (right : Tests D) (a : ℕ) (op : CmpOp) (b : ℕ) (us : List (RowOf C))
    (vs : List (RowOf D)) (more : List (RowOf C)) (others : List (RowOf D)) → ((a : ℕ) → LeadsAt R Q a)
    → ((a : ℕ) → LeadsAt S Q a) → RespectsPair Q left right a op b → AreLike R us vs → AreLike S more others
    → AreLike Q (join left a op b us more) (join right a op b vs others)

-- the grouped cells are compared for equality and kept; of the others only what functions make of them is in the group
pub record RespectsGroup {C D : Type 0} (R Q : ℕ → C → D → Type 0) (left : Tests C) (right : Tests D) (set : ℕ)
    (aggs : List (AttrId × Agg)) (most : ℕ) : Type 0 where
  pub keys : (a : ℕ) → has set a ≡ true → RespectsPair R left right a cmp.Eq a
  pub kept : (a : ℕ) → has set a ≡ true → LeadsAt R Q a
  pub made : (a : ℕ) → has set a ≡ false → (func : Agg) → function_of aggs a ≡ Some func
      → RespectsFold R Q left right most a func

-- a group
abbrev pub GroupKeeps : {C D : Type 0} → (ℕ → C → D → Type 0) → (ℕ → C → D → Type 0) → Type 0
GroupKeeps {C} {D} R Q = (left : Tests C) (right : Tests D) (set : ℕ) (aggs : List (AttrId × Agg)) (counted : Bool)
    (us : List (RowOf C)) (vs : List (RowOf D)) → RespectsGroup R Q left right set aggs (length us) → AreLike R us vs
    → AreLike Q (grouped left set aggs counted us) (grouped right set aggs counted vs)

-- the select list, where cells and counts belong together whatever attribute they are of
abbrev pub SelectKeeps : {C D : Type 0} → (ℕ → C → D → Type 0) → (C → D → Type 0) → Type 0
SelectKeeps {C} {D} R S = (number : ℕ → C) (figure : ℕ → D) (items : List Item) (us : List (RowOf C)) (vs : List (RowOf D))
    → ((a : ℕ) (c : C) (d : D) → R a c d → S c d) → ((n : ℕ) → S (number n) (figure n)) → AreLike R us vs
    → Beside (Beside S) (map (selected number items) us) (map (selected figure items) vs)

-- rows that belong together by a function of the cells are one the change of the other; by equality they are the same
abbrev pub LikeIsMapped : Type 0 → Type 0 → Type 0
LikeIsMapped C D = (change : ℕ → C → D) (us : List (RowOf C)) (vs : List (RowOf D))
    → AreLike (λ a c d. change a c ≡ d) us vs → map (mapped change) us ≡ vs

abbrev pub LikeIsSame : Type 0 → Type 0
LikeIsSame C = (us vs : List (RowOf C)) → AreLike (λ a c d. c ≡ d) us vs → us ≡ vs
