-- The order in which states are settled is kept: where a state is offered with a label of at least the front, and where the least that
-- waits is taken. So a settled state is never changed, and never waits again.
use Rattle.std.proofs.Common.{◌≡◌, ℕ, zero, suc, ◌+◌, ◌≤◌, ◌<◌, ◌⊎◌, inl, inr, Bool, true, false, ◌&&◌, ◌==◌, cond, List, [], ◌∷◌, ◌++◌, length, drop, Option, Some, None, slice_get, refl, sym, ◌∙◌, ap, subst, true≢false, arith, nat_lt}
use Rattle.std.specs.List.{IsDistinct}
use Rattle.std.proofs.lemmas.Bool.{eqb-true, ltb-false, ltb-true}
use Rattle.std.proofs.lemmas.List.{drop_all, length_push}
use Rattle.std.proofs.lemmas.Map.Keys.{IsDistinct-push}
use Rattle.std.proofs.lemmas.Option.{slice_get_within}
use Rattle.base_laws.proofs.BoolLaws.{both}
use Rattle.extended_plan.proofs.EntryLaws.{same_state}
use Rattle.extended_plan.specs.declared.state.State.{State}
use Rattle.extended_plan.specs.States.{state_eq}
use Rattle.assign_table.specs.declared.cell.Cell.{Cell}
use Rattle.assign_table.specs.declared.way.Settled.{Settled}
use Rattle.assign_table.specs.declared.way.Way.{Way}
use Rattle.assign_table.specs.inside.Cells.{IsListedOn, cell_of}
use Rattle.assign_table.specs.inside.Order.{IsAtRest, IsOrdered, IsSettledFrom, states_of}
use Rattle.assign_table.specs.inside.Sheet.{IsBlank, IsOffered, IsTaken, IsWritten, Sheet, Waits, is_lower, is_this, is_waiting, times}
use Rattle.assign_table.proofs.ArenaLaws.{IsNewAt, block-none, push-cases, push-kept, push-last, states_of-push}
use Rattle.assign_table.proofs.SheetLaws.{cell_with, is_waiting-itself, one_where, settled_with, times-none, times-pushed}
use Rattle.assign_table.proofs.StateLaws.{cell_of-apart, cell_of-written, state_eq-equivalence}

-- what waits after a state is written
abbrev put : State → ℕ → Waits
put st label = record { label = label; state = st }

-- a label that is lower than that of a cell
lower-label : (label : ℕ) (found : Option Cell) (cell : Cell) → is_lower label found ≡ true → found ≡ Some cell → label < cell.label
lower-label label found cell lower is = ltb-true label cell.label (sym (ap (is_lower label) is) ∙ lower)

module _ (old new : Sheet) (st : State) (label : ℕ) (way : Way) (written : IsWritten old st label way new) where
  -- the cell that was written, and the others
  pub written-cell : cell_of new.cells st ≡ Some (record { label = label; way = way })
  written-cell = ap (λ cells. cell_of cells st) written.cells ∙ cell_of-written old.cells st (cell_with label way)

  pub written-other : (other : State) → state_eq other st ≡ false → cell_of new.cells other ≡ cell_of old.cells other
  written-other other apart =
      ap (λ cells. cell_of cells other) written.cells ∙ cell_of-apart old.cells st (cell_with label way) other apart

  -- it waits once more, and the others as often as before
  pub written-times : (other : State) (m : ℕ) → times other m new.queue ≡ one_where other m (put st label) + times other m old.queue
  written-times other m = times-pushed other m (put st label) old.queue new.queue written.queue

  pub written-waits : times st label new.queue ≡ 1 + times st label old.queue
  written-waits =
      let count : times st label new.queue ≡ one_where st label (put st label) + times st label old.queue = written-times st label in
      let one : one_where st label (put st label) ≡ 1 = ap (λ b. cond b 1 0) (is_waiting-itself (put st label)) in
      omega arith

  pub written-apart : (other : State) (m : ℕ) → state_eq other st ≡ false → times other m new.queue ≡ times other m old.queue
  written-apart other m apart =
      let count : times other m new.queue ≡ one_where other m (put st label) + times other m old.queue = written-times other m in
      let none : one_where other m (put st label) ≡ 0 = ap (λ b. cond (b && (m == label)) 1 0) apart in
      omega arith

  -- with a lower label than before, all that was listed is listed, with no higher label
  pub written-lower : is_lower label (cell_of old.cells st) ≡ true → (other : State) (most : ℕ) → IsListedOn old.cells other most
      → IsListedOn new.cells other most
  written-lower lower other most was = by_test (state_eq other st) refl
    where
      by_test : (b : Bool) → state_eq other st ≡ b → IsListedOn new.cells other most
      by_test true is =
          let same : other ≡ st = same_state other st is in
          let below : label < was.cell.label =
          lower-label label (cell_of old.cells st) was.cell lower
          (subst (λ u. cell_of old.cells u ≡ Some was.cell) same was.listed) in
          let before : was.cell.label ≤ most = was.enough in
          record {
            cell = cell_with label way;
            listed = subst (λ u. cell_of new.cells u ≡ Some (cell_with label way)) (sym same) written-cell;
            enough = omega arith;
          }
      by_test false is = record { cell = was.cell; listed = written-other other is ∙ was.listed; enough = was.enough }

-- an offer keeps what is listed
pub offered-lower : (old new : Sheet) (st : State) (label : ℕ) (way : Way) → IsOffered old st label way new
    → (other : State) (most : ℕ) → IsListedOn old.cells other most → IsListedOn new.cells other most
offered-lower old new st label way offered other most was = by_test (is_lower label (cell_of old.cells st)) refl
  where
    by_test : (b : Bool) → is_lower label (cell_of old.cells st) ≡ b → IsListedOn new.cells other most
    by_test true is = written-lower old new st label way (offered.written is) is other most was
    by_test false is = subst (λ (sheet : Sheet). IsListedOn sheet.cells other most) (sym (offered.passed is)) was

-- and lists the state that is offered
pub offered-listed : (old new : Sheet) (st : State) (label : ℕ) (way : Way) → IsOffered old st label way new → IsListedOn new.cells st label
offered-listed old new st label way offered = by_test (cell_of old.cells st) refl (is_lower label (cell_of old.cells st)) refl
  where
    by_test : (found : Option Cell) → cell_of old.cells st ≡ found → (b : Bool) → is_lower label (cell_of old.cells st) ≡ b
        → IsListedOn new.cells st label
    by_test found there true is =
        record { cell = cell_with label way; listed = written-cell old new st label way (offered.written is); enough = omega arith }
    by_test None there false is = absurd (true≢false (sym (ap (is_lower label) there) ∙ is))
    by_test (Some cell) there false is =
        let not_lower : nat_lt label cell.label ≡ false = sym (ap (is_lower label) there) ∙ is in
        subst (λ (sheet : Sheet). IsListedOn sheet.cells st label) (sym (offered.passed is))
        (record { cell = cell; listed = there; enough = ltb-false label cell.label not_lower })

distinct-none : IsDistinct state_eq []
unfolding IsDistinct
distinct-none = tt

-- a table with no state is in order, before any is settled
pub ordered-blank : (arena : List Settled) (sheet : Sheet) → IsBlank sheet → IsOrdered (length arena) arena sheet 0
ordered-blank arena sheet blank = record {
  start = omega arith;
  rests = λ place e after there.
      let within : place < length arena = slice_get_within arena place e there in absurd (omega arith);
  differ = subst (λ (es : List Settled). IsDistinct state_eq (states_of es)) (sym (drop_all (length arena) arena (omega arith))) distinct-none;
  settled = λ st cell found none.
      let nothing : None ≡ Some cell = sym (ap (λ cells. cell_of cells st) blank.cells) ∙ found in cc;
  behind = λ st label some. absurd (nothing-waits st label some);
  high = λ st label some. absurd (nothing-waits st label some);
  once = λ st label. let none : times st label sheet.queue ≡ 0 = none-waits st label in omega arith;
  heap = blank.heap;
}
  where
    none-waits : (st : State) (label : ℕ) → times st label sheet.queue ≡ 0
    none-waits st label = ap (times st label) blank.queue ∙ times-none st label

    nothing-waits : (st : State) (label : ℕ) → 0 < times st label sheet.queue → ⊥
    nothing-waits st label some = let none : times st label sheet.queue ≡ 0 = none-waits st label in omega arith

module _ (from : ℕ) (arena : List Settled) (old new : Sheet) (front : ℕ) (ordered : IsOrdered from arena old front) where
  -- a label at the front or above lowers that of no settled state
  written-unsettled : (st : State) (label : ℕ) → is_lower label (cell_of old.cells st) ≡ true → front ≤ label
      → (place : ℕ) (e : Settled) → from ≤ place → slice_get arena place ≡ Some e → state_eq e.state st ≡ false
  written-unsettled st label lower high place e after there = by_test (state_eq e.state st) refl
    where
      by_test : (b : Bool) → state_eq e.state st ≡ b → state_eq e.state st ≡ false
      by_test true is =
          let rest : IsAtRest old front e = ordered.rests place e after there in
          let below : label < e.label =
          lower-label label (cell_of old.cells st) (cell_with e.label e.way) lower
          (subst (λ u. cell_of old.cells u ≡ Some (cell_with e.label e.way)) (same_state e.state st is) rest.listed) in
          let low : e.label ≤ front = rest.low in
          absurd (omega arith)
      by_test false is = is

  -- what waits again with this label did not wait with it
  written-new : (st : State) (label : ℕ) → is_lower label (cell_of old.cells st) ≡ true → times st label old.queue ≡ 0
  written-new st label lower = by_count (times st label old.queue) refl
    where
      by_count : (n : ℕ) → times st label old.queue ≡ n → n ≡ 0
      by_count zero is = refl
      by_count (suc n) is =
          let listed : IsListedOn old.cells st label = ordered.behind st label (omega arith) in
          let below : label < listed.cell.label = lower-label label (cell_of old.cells st) listed.cell lower listed.listed in
          let enough : listed.cell.label ≤ label = listed.enough in
          absurd (omega arith)

  -- the order is kept where a state is written with a lower label, at the front or above
  ordered-written : (st : State) (label : ℕ) (way : Way) → IsWritten old st label way new → is_lower label (cell_of old.cells st) ≡ true
      → front ≤ label → IsOrdered from arena new front
  ordered-written st label way written lower high_label = record {
    start = ordered.start;
    rests = λ place e after there.
        let rest : IsAtRest old front e = ordered.rests place e after there in
        let apart : state_eq e.state st ≡ false = written-unsettled st label lower high_label place e after there in
        record {
          listed = written-other old new st label way written e.state apart ∙ rest.listed;
          still = written-apart old new st label way written e.state e.label apart ∙ rest.still;
          low = rest.low;
        };
    differ = ordered.differ;
    settled = λ other cell found none. settled other cell found none (state_eq other st) refl;
    behind = λ other m some. behind other m some (is_waiting other m (put st label)) refl;
    high = λ other m some. high other m some (is_waiting other m (put st label)) refl;
    once = λ other m. once other m (is_waiting other m (put st label)) refl;
    heap = written.heap ordered.heap;
  }
    where
      here : (other : State) (m : ℕ) → is_waiting other m (put st label) ≡ true → (other ≡ st) × (m ≡ label)
      here other m is =
          let parts : (state_eq other st ≡ true) × ((m == label) ≡ true) = both (state_eq other st) (m == label) is in
          (same_state other st parts.0, eqb-true m label parts.1)

      before : (other : State) (m : ℕ) → is_waiting other m (put st label) ≡ false → times other m new.queue ≡ times other m old.queue
      before other m is =
          let count : times other m new.queue ≡ one_where other m (put st label) + times other m old.queue =
          written-times old new st label way written other m in
          let none : one_where other m (put st label) ≡ 0 = ap (λ b. cond b 1 0) is in
          omega arith

      settled : (other : State) (cell : Cell) → cell_of new.cells other ≡ Some cell → times other cell.label new.queue ≡ 0
          → (b : Bool) → state_eq other st ≡ b → IsSettledFrom from arena (record { state = other; label = cell.label; way = cell.way })
      settled other cell found none true is =
          let same : other ≡ st = same_state other st is in
          let one : Some (cell_with label way) ≡ Some cell =
          sym (written-cell old new st label way written) ∙ subst (λ u. cell_of new.cells u ≡ Some cell) same found in
          let cells : cell_with label way ≡ cell = cc in
          let labels : label ≡ cell.label = ap (λ (c : Cell). c.label) cells in
          let waits : times st label new.queue ≡ 1 + times st label old.queue = written-waits old new st label way written in
          let count : times st label new.queue ≡ 0 =
          subst (λ u. times u label new.queue ≡ 0) same (subst (λ l. times other l new.queue ≡ 0) (sym labels) none) in
          absurd (omega arith)
      settled other cell found none false is =
          ordered.settled other cell (sym (written-other old new st label way written other is) ∙ found)
          (sym (written-apart old new st label way written other cell.label is) ∙ none)

      behind : (other : State) (m : ℕ) → 0 < times other m new.queue → (b : Bool) → is_waiting other m (put st label) ≡ b
          → IsListedOn new.cells other m
      behind other m some true is =
          let same : (other ≡ st) × (m ≡ label) = here other m is in
          let labels : m ≡ label = same.1 in
          record {
            cell = cell_with label way;
            listed = subst (λ u. cell_of new.cells u ≡ Some (cell_with label way)) (sym same.0) (written-cell old new st label way written);
            enough = omega arith;
          }
      behind other m some false is =
          written-lower old new st label way written lower other m (ordered.behind other m (subst (λ n. 0 < n) (before other m is) some))

      high : (other : State) (m : ℕ) → 0 < times other m new.queue → (b : Bool) → is_waiting other m (put st label) ≡ b → front ≤ m
      high other m some true is = let labels : m ≡ label = (here other m is).1 in omega arith
      high other m some false is = ordered.high other m (subst (λ n. 0 < n) (before other m is) some)

      once : (other : State) (m : ℕ) → (b : Bool) → is_waiting other m (put st label) ≡ b → times other m new.queue ≤ 1
      once other m true is =
          let same : (other ≡ st) × (m ≡ label) = here other m is in
          let waits : times st label new.queue ≡ 1 + times st label old.queue = written-waits old new st label way written in
          let none : times st label old.queue ≡ 0 = written-new st label lower in
          let one : times st label new.queue ≤ 1 = omega arith in
          subst (λ u. times u m new.queue ≤ 1) (sym same.0) (subst (λ l. times st l new.queue ≤ 1) (sym same.1) one)
      once other m false is = subst (λ n. n ≤ 1) (sym (before other m is)) (ordered.once other m)

  -- and where a state is offered with a label at the front or above
  pub ordered-offered : (st : State) (label : ℕ) (way : Way) → IsOffered old st label way new → front ≤ label → IsOrdered from arena new front
  ordered-offered st label way offered high_label = by_test (is_lower label (cell_of old.cells st)) refl
    where
      by_test : (b : Bool) → is_lower label (cell_of old.cells st) ≡ b → IsOrdered from arena new front
      by_test true is = ordered-written st label way (offered.written is) is high_label
      by_test false is = subst (λ sheet. IsOrdered from arena sheet front) (sym (offered.passed is)) ordered

  -- and where the least that waits is taken and settled, whose label is the front from then on
  pub ordered-taken : (e : Settled) → IsTaken old e new → IsOrdered from (arena ++ e ∷ []) new e.label
  ordered-taken e taken = record {
    start = let longer : length (arena ++ e ∷ []) ≡ length arena + 1 = length_push arena e in
        let start : from ≤ length arena = ordered.start in omega arith;
    rests = λ place f after there. rests place f after (push-cases arena e place f there);
    differ =
        subst (IsDistinct state_eq) (sym (states_of-push from arena e ordered.start))
        (IsDistinct-push state_eq-equivalence (states_of (drop from arena)) e.state ordered.differ (block-none (state_eq e.state) from arena fresh));
    settled = λ st cell found none. settled st cell (sym (ap (λ cells. cell_of cells st) taken.cells) ∙ found) none;
    behind = λ st label some.
        let fewer : times st label new.queue ≤ times st label old.queue = taken.fewer st label in
        subst (λ cells. IsListedOn cells st label) (sym taken.cells) (ordered.behind st label (omega arith));
    high = taken.least ordered.heap;
    once = λ st label.
        let fewer : times st label new.queue ≤ times st label old.queue = taken.fewer st label in
        let once : times st label old.queue ≤ 1 = ordered.once st label in
        omega arith;
    heap = taken.heap ordered.heap;
  }
    where
      this : is_this e e.state e.label ≡ 1
      this = ap (λ b. cond b 1 0) (is_waiting-itself (put e.state e.label))

      rests : (place : ℕ) (f : Settled) → from ≤ place → (slice_get arena place ≡ Some f) ⊎ IsNewAt arena e place f → IsAtRest new e.label f
      rests place f after (inl there) =
          let rest : IsAtRest old front f = ordered.rests place f after there in
          let fewer : times f.state f.label new.queue ≤ times f.state f.label old.queue = taken.fewer f.state f.label in
          let still : times f.state f.label old.queue ≡ 0 = rest.still in
          let low : f.label ≤ front = rest.low in
          let high : front ≤ e.label = ordered.high e.state e.label taken.waited in
          record {
            listed = ap (λ cells. cell_of cells f.state) taken.cells ∙ rest.listed;
            still = omega arith;
            low = omega arith;
          }
      rests place f after (inr last) =
          let kept : times e.state e.label old.queue ≡ times e.state e.label new.queue + is_this e e.state e.label =
          taken.kept e.state (cell_with e.label e.way) taken.listed in
          let one : is_this e e.state e.label ≡ 1 = this in
          let once : times e.state e.label old.queue ≤ 1 = ordered.once e.state e.label in
          subst (IsAtRest new e.label) (sym last.new)
          (record {
            listed = ap (λ cells. cell_of cells e.state) taken.cells ∙ taken.listed;
            still = omega arith;
            low = omega arith;
          })

      fresh : (place : ℕ) (f : Settled) → from ≤ place → slice_get arena place ≡ Some f → state_eq e.state f.state ≡ false
      fresh place f after there = by_test (state_eq e.state f.state) refl
        where
          by_test : (b : Bool) → state_eq e.state f.state ≡ b → state_eq e.state f.state ≡ false
          by_test true is =
              let rest : IsAtRest old front f = ordered.rests place f after there in
              let same : e.state ≡ f.state = same_state e.state f.state is in
              let one : Some (cell_with e.label e.way) ≡ Some (cell_with f.label f.way) =
              sym taken.listed ∙ ap (cell_of old.cells) same ∙ rest.listed in
              let cells : cell_with e.label e.way ≡ cell_with f.label f.way = cc in
              let labels : e.label ≡ f.label = ap (λ (c : Cell). c.label) cells in
              let still : times e.state e.label old.queue ≡ 0 =
              subst (λ u. times u e.label old.queue ≡ 0) (sym same) (subst (λ l. times f.state l old.queue ≡ 0) (sym labels) rest.still) in
              let waited : 0 < times e.state e.label old.queue = taken.waited in
              absurd (omega arith)
          by_test false is = is

      settled : (st : State) (cell : Cell) → cell_of old.cells st ≡ Some cell → times st cell.label new.queue ≡ 0
          → IsSettledFrom from (arena ++ e ∷ []) (record { state = st; label = cell.label; way = cell.way })
      settled st cell found none = by_test (state_eq st e.state && (cell.label == e.label)) refl
        where
          count : times st cell.label old.queue ≡ times st cell.label new.queue + is_this e st cell.label
          count = taken.kept st cell found

          by_test : (b : Bool) → (state_eq st e.state && (cell.label == e.label)) ≡ b
              → IsSettledFrom from (arena ++ e ∷ []) (record { state = st; label = cell.label; way = cell.way })
          by_test true is =
              let same : st ≡ e.state = same_state st e.state (both (state_eq st e.state) (cell.label == e.label) is).0 in
              let one : Some cell ≡ Some (cell_with e.label e.way) = sym found ∙ ap (cell_of old.cells) same ∙ taken.listed in
              let cells : cell ≡ cell_with e.label e.way = cc in
              let whole : e ≡ settled_with st cell.label cell.way =
              sym (ap (λ (u : State). settled_with u cell.label cell.way) same
              ∙ ap (λ (c : Cell). settled_with e.state c.label c.way) cells) in
              record { place = length arena; after = ordered.start; there = push-last arena e ∙ ap Some whole }
          by_test false is =
              let none_here : is_this e st cell.label ≡ 0 = ap (λ b. cond b 1 0) is in
              let was : IsSettledFrom from arena (record { state = st; label = cell.label; way = cell.way }) =
              ordered.settled st cell found (omega arith) in
              record {
                place = was.place;
                after = was.after;
                there = push-kept arena e was.place (settled_with st cell.label cell.way) was.there;
              }
