-- How often a state waits, before and after one is put or taken, and what a loop that drops what is stale comes to.
use Rattle.std.proofs.Common.{◌≡◌, ℕ, ◌+◌, ◌≤◌, ◌<◌, Bool, true, false, ◌&&◌, ◌==◌, cond, List, [], ◌∷◌, length, Option, Some, None, if◌then◌else◌, refl, sym, ◌∙◌, ap, subst, arith}
use Rattle.std.specs.BinaryHeap.{IsUpperBound, KeepsHeap, PopsGreatest, IsHeap}
use Rattle.std.specs.List.Sorted.{IsPermutation}
use Rattle.std.specs.Ordering.{is_lt, nat_cmp}
use Rattle.std.proofs.lemmas.Bool.{eq-eqb, eqb-true}
use Rattle.std.proofs.lemmas.Bool.Decides.{nat_tests}
use Rattle.std.proofs.lemmas.List.{nil_from_length}
use Rattle.std.proofs.lemmas.List.Sorted.{sum_by_popped, sum_by_pushed}
use Rattle.std.proofs.lemmas.List.Sums.{sum_by-cons}
use Rattle.base_laws.proofs.BoolLaws.{both, together}
use Rattle.extended_plan.proofs.EntryLaws.{same_state, state_eq-itself}
use Rattle.extended_plan.specs.declared.state.State.{State}
use Rattle.extended_plan.specs.States.{state_eq}
use Rattle.assign_table.specs.declared.cell.Cell.{Cell}
use Rattle.assign_table.specs.declared.way.Settled.{Settled}
use Rattle.assign_table.specs.declared.way.Way.{Way}
use Rattle.assign_table.specs.inside.Cells.{cell_of}
use Rattle.assign_table.specs.inside.Sheet.{IsDrained, IsSifted, IsTaken, Sheet, Waits, is_this, is_waiting, fresh_of, times, waiting_cmp}

-- the cell of a label and a way, and a settled state with these
abbrev pub cell_with : ℕ → Way → Cell
cell_with label way = record { label = label; way = way }

abbrev pub settled_with : State → ℕ → Way → Settled
settled_with st label way = record { state = st; label = label; way = way }

-- 1 where what waits is this state with this label, and else 0
abbrev pub one_where : State → ℕ → Waits → ℕ
one_where st label r = cond (is_waiting st label r) 1 0

pub times-none : (st : State) (label : ℕ) → times st label [] ≡ 0
unfolding times
times-none st label = refl

pub times-cons : (st : State) (label : ℕ) (r : Waits) (queue : List Waits)
    → times st label (r ∷ queue) ≡ one_where st label r + times st label queue
unfolding times
times-cons st label r queue = sum_by-cons (one_where st label) r queue

pub times-pushed : (st : State) (label : ℕ) (r : Waits) (old new : List Waits) → IsPermutation (r ∷ old) new
    → times st label new ≡ one_where st label r + times st label old
unfolding times
times-pushed st label r old new moved = sum_by_pushed (one_where st label) r old new moved

pub times-popped : (st : State) (label : ℕ) (r : Waits) (old new : List Waits) → IsPermutation old (r ∷ new)
    → times st label old ≡ times st label new + one_where st label r
unfolding times
times-popped st label r old new moved = sym (sum_by_popped (one_where st label) r old new moved)

-- what waits as this state with this label
pub is_waiting-itself : (r : Waits) → is_waiting r.state r.label r ≡ true
is_waiting-itself r = together _ _ (state_eq-itself r.state) (eq-eqb r.label r.label refl)

-- a label is no higher than one that is no less in the order of what waits
waiting_cmp-label : (x y : Waits) → is_lt (waiting_cmp x y) ≡ false → x.label ≤ y.label
waiting_cmp-label x y not_less = by_label x.label y.label not_less
  where
    by_label : (a b : ℕ) → is_lt (nat_cmp b a) ≡ false → a ≤ b
    by_label a b h = grind (arith, nat_tests)

-- nothing waits with a label below one that is less than nothing that waits
pub least-times : (x : Waits) (queue : List Waits) → IsUpperBound waiting_cmp x queue
    → (st : State) (label : ℕ) → 0 < times st label queue → x.label ≤ label
least-times x [] bound st label some = absurd (let none : times st label [] ≡ 0 = times-none st label in omega arith)
least-times x (r ∷ queue) bound st label some =
    by_test (is_waiting st label r) refl (least-times x queue bound.1 st label)
  where
    by_test : (b : Bool) → is_waiting st label r ≡ b → (0 < times st label queue → x.label ≤ label) → x.label ≤ label
    by_test true is further =
        let first : x.label ≤ r.label = waiting_cmp-label x r bound.0 in
        let same : label ≡ r.label = eqb-true label r.label (both (state_eq st r.state) (label == r.label) is).1 in
        omega arith
    by_test false is further =
        let count : times st label (r ∷ queue) ≡ one_where st label r + times st label queue = times-cons st label r queue in
        let none : one_where st label r ≡ 0 = ap (λ b. cond b 1 0) is in
        further (omega arith)

-- what is stale is no cell
stale-apart : (cells : List (State × Cell)) (x : Waits) → fresh_of x (cell_of cells x.state) ≡ None
    → (st : State) (cell : Cell) → cell_of cells st ≡ Some cell → is_waiting st cell.label x ≡ false
stale-apart cells x stale st cell found = by_test (is_waiting st cell.label x) refl
  where
    by_test : (b : Bool) → is_waiting st cell.label x ≡ b → is_waiting st cell.label x ≡ false
    by_test true is =
        let parts = both (state_eq st x.state) (cell.label == x.label) is in
        let there : cell_of cells x.state ≡ Some cell = subst (λ u. cell_of cells u ≡ Some cell) (same_state st x.state parts.0) found in
        let fresh : fresh_of x (cell_of cells x.state) ≡ Some (settled_with x.state cell.label cell.way) =
        ap (fresh_of x) there
        ∙ ap (λ (b : Bool). if b then Some (settled_with x.state cell.label cell.way) else None) parts.1 in
        cc
    by_test false is = is

-- a settled state is that of the cell that waited
pub record IsFresh (x : Waits) (found : Option Cell) (e : Settled) : Type 0 where
  pub listed : found ≡ Some (record { label = e.label; way = e.way })
  pub state : e.state ≡ x.state
  pub label : e.label ≡ x.label

pub fresh-from : (x : Waits) (found : Option Cell) (e : Settled) → fresh_of x found ≡ Some e → IsFresh x found e
fresh-from x None e is = cc
fresh-from x (Some cell) e is = by_test (cell.label == x.label) refl is
  where
    by_test : (b : Bool) → (cell.label == x.label) ≡ b
        → (if b then Some (settled_with x.state cell.label cell.way) else None) ≡ Some e → IsFresh x (Some cell) e
    by_test true same is =
        let one : settled_with x.state cell.label cell.way ≡ e = cc in
        record {
          listed = ap (λ (f : Settled). Some (cell_with f.label f.way)) one;
          state = sym (ap (λ (f : Settled). f.state) one);
          label = sym (ap (λ (f : Settled). f.label) one) ∙ eqb-true cell.label x.label same;
        }
    by_test false same is = cc

-- at first nothing is dropped
pub sifted-none : (old : Sheet) → IsSifted old old
sifted-none old = record {
  cells = refl;
  fewer = λ st label. omega arith;
  kept = λ st cell found. refl;
  heap = λ ordered. ordered;
}

-- then what is stale is dropped
pub sifted-more : (old now new : Sheet) (x : Waits) → IsSifted old now → new.cells ≡ now.cells
    → IsPermutation now.queue (x ∷ new.queue) → KeepsHeap waiting_cmp now.queue new.queue
    → fresh_of x (cell_of now.cells x.state) ≡ None → IsSifted old new
sifted-more old now new x sifted cells popped heap stale = record {
  cells = cells ∙ sifted.cells;
  fewer = λ st label.
      let before : times st label now.queue ≤ times st label old.queue = sifted.fewer st label in
      let count : times st label now.queue ≡ times st label new.queue + one_where st label x =
      times-popped st label x now.queue new.queue popped in
      omega arith;
  kept = λ st cell found.
      let before : times st cell.label old.queue ≡ times st cell.label now.queue = sifted.kept st cell found in
      let count : times st cell.label now.queue ≡ times st cell.label new.queue + one_where st cell.label x =
      times-popped st cell.label x now.queue new.queue popped in
      let apart : is_waiting st cell.label x ≡ false =
      stale-apart now.cells x stale st cell (ap (λ cells. cell_of cells st) sifted.cells ∙ found) in
      let none : one_where st cell.label x ≡ 0 = ap (λ b. cond b 1 0) apart in
      omega arith;
  heap = λ ordered. heap (sifted.heap ordered);
}

-- and the first that is not stale is taken
pub taken-first : (old now new : Sheet) (x : Waits) (e : Settled) → IsSifted old now → new.cells ≡ now.cells
    → IsPermutation now.queue (x ∷ new.queue) → PopsGreatest waiting_cmp now.queue x new.queue
    → (IsHeap waiting_cmp now.queue → IsUpperBound waiting_cmp x new.queue)
    → fresh_of x (cell_of now.cells x.state) ≡ Some e → IsTaken old e new
taken-first old now new x e sifted cells popped heap bound is =
    let fresh : IsFresh x (cell_of now.cells x.state) e = fresh-from x (cell_of now.cells x.state) e is in
    let same_label : e.label ≡ x.label = fresh.label in
    record {
      cells = cells ∙ sifted.cells;
      listed =
          ap (λ st. cell_of old.cells st) fresh.state ∙ ap (λ cells. cell_of cells x.state) (sym sifted.cells) ∙ fresh.listed;
      waited =
          let count : times x.state x.label now.queue ≡ times x.state x.label new.queue + one_where x.state x.label x =
          times-popped x.state x.label x now.queue new.queue popped in
          let one : one_where x.state x.label x ≡ 1 = ap (λ b. cond b 1 0) (is_waiting-itself x) in
          let before : times x.state x.label now.queue ≤ times x.state x.label old.queue =
          sifted.fewer x.state x.label in
          let some : 0 < times x.state x.label old.queue = omega arith in
          subst (λ st. 0 < times st e.label old.queue) (sym fresh.state)
          (subst (λ label. 0 < times x.state label old.queue) (sym same_label) some);
      fewer = λ st label.
          let before : times st label now.queue ≤ times st label old.queue = sifted.fewer st label in
          let count : times st label now.queue ≡ times st label new.queue + one_where st label x =
          times-popped st label x now.queue new.queue popped in
          omega arith;
      kept = λ st cell found.
          let before : times st cell.label old.queue ≡ times st cell.label now.queue = sifted.kept st cell found in
          let count : times st cell.label now.queue ≡ times st cell.label new.queue + one_where st cell.label x =
          times-popped st cell.label x now.queue new.queue popped in
          let this : one_where st cell.label x ≡ is_this e st cell.label =
          sym (ap (λ u. cond (state_eq st u && (cell.label == e.label)) 1 0) fresh.state
          ∙ ap (λ l. cond (state_eq st x.state && (cell.label == l)) 1 0) same_label) in
          omega arith;
      least = λ ordered st label some.
          let low : x.label ≤ label = least-times x new.queue (bound (sifted.heap ordered)) st label some in
          omega arith;
      heap = λ ordered. (heap (sifted.heap ordered)).0;
    }

-- where nothing is left, no cell waited
pub drained-last : (old now new : Sheet) → IsSifted old now → new.cells ≡ now.cells → new.queue ≡ now.queue → length now.queue ≡ 0
    → IsDrained old new
drained-last old now new sifted cells queue none =
    let empty : now.queue ≡ [] = nil_from_length now.queue none in
    record {
      cells = cells ∙ sifted.cells;
      none = λ st cell found. sifted.kept st cell found ∙ ap (times st cell.label) empty ∙ times-none st cell.label;
      queue = queue ∙ empty;
    }
