-- What is kept where gains of the last settled state are offered, and that too many states are reached where one is refused.
use Rattle.std.proofs.Common.{◌≡◌, ℕ, ◌+◌, ◌≤◌, ◌<◌, Bool, true, false, cond, List, [], ◌∷◌, length, Option, Some, None, slice_get, refl, sym, ◌∙◌, ap, subst, arith, min}
use Rattle.std.specs.Prelude.{IfSome}
use Rattle.std.specs.List.{AllByRecursion, IsDistinct}
use Rattle.std.specs.Map.{keys_of}
use Rattle.std.proofs.lemmas.List.Elements.{All-cons, All-from_recursion}
use Rattle.std.proofs.lemmas.Map.Entries.{length-keys_of}
use Rattle.std.proofs.lemmas.Option.{slice_get_within}
use Rattle.mq_base.specs.declared.ids.NodeId.{NodeId}
use Rattle.mq_base.specs.declared.plan.Step.{Step}
use Rattle.mq_base.specs.declared.plan.Step.TheVariants as step
use Rattle.cost_model.specs.Costs.{cut}
use Rattle.extended_plan.proofs.EntryLaws.{same_state, state_eq-itself}
use Rattle.extended_plan.specs.declared.state.State.{State}
use Rattle.extended_plan.specs.Gains.{Gain, step_gain}
use Rattle.extended_plan.specs.Job.{IsHeldAt}
use Rattle.extended_plan.specs.Ready.{IsReady}
use Rattle.extended_plan.specs.Setting.{Setting}
use Rattle.extended_plan.specs.States.{IsReached, state_eq}
use Rattle.assign_table.specs.declared.cell.Cell.{Cell}
use Rattle.assign_table.specs.declared.way.Settled.{Settled}
use Rattle.assign_table.specs.declared.way.Way.{Way}
use Rattle.assign_table.specs.declared.way.Way.TheVariants as way
use Rattle.assign_table.specs.inside.Cells.{IsListedOn, cell_of}
use Rattle.assign_table.specs.inside.Settling.{AreAttained, Continues, IsCrowded, IsGainListed, IsGathered, IsLast, ShowsCrowd, Stays}
use Rattle.assign_table.specs.inside.Sheet.{IsBlank, IsOffered, IsRefused, Sheet, is_lower}
use Rattle.assign_table.specs.inside.Crossing.{IsMet}
use Rattle.assign_table.specs.inside.Ways.{IsAttained}
use Rattle.assign_table.proofs.CrossLaws.{step-traced}
use Rattle.assign_table.proofs.OrderLaws.{offered-listed, offered-lower, ordered-blank, ordered-offered, written-cell, written-other}
use Rattle.assign_table.proofs.SheetLaws.{cell_with}
use Rattle.assign_table.proofs.WayLaws.{dec_attained, enc_attained, send_attained}

-- what a step gains from an attained state is attained by the step
step-attained : (s : Setting) → IsReady s → (arena : List Settled) (n : NodeId) (base at : ℕ) (e : Settled) (act : Step) (gain : Gain)
    → Stays act → slice_get arena at ≡ Some e → IsAttained s arena n.0 base (at + 1) e.state e.label e.way
    → step_gain s n act e.state None ≡ Some gain
    → IsAttained s arena n.0 base (length arena + 1) gain.state (cut (e.label + gain.cost)) (way.One act at)
step-attained s ready arena n base at e (step.Enc a) gain stays there from gains = enc_attained s ready arena n.0 base at e a gain there from gains
step-attained s ready arena n base at e (step.Dec a) gain stays there from gains = dec_attained s ready arena n.0 base at e a gain there from gains
step-attained s ready arena n base at e (step.Send to) gain stays there from gains = send_attained s ready arena n.0 base at e to gain there from gains
step-attained s ready arena n base at e (step.Base t) gain stays there from gains = absurd stays
step-attained s ready arena n base at e (step.Un m) gain stays there from gains = absurd stays
step-attained s ready arena n base at e (step.Bin m) gain stays there from gains = absurd stays

-- a sum of which a part is cut, cut
pub cut-both : (label cost most : ℕ) → min (label + min cost most) most ≡ min (label + cost) most
cut-both label cost most = omega arith

-- what holds of each cell holds still after an offer of which it holds
cells-offered : (P : State → Cell → Type 0) (old new : Sheet) (st : State) (label : ℕ) (way : Way) → IsOffered old st label way new
    → P st (record { label = label; way = way })
    → ((other : State) (cell : Cell) → cell_of old.cells other ≡ Some cell → P other cell)
    → (other : State) (cell : Cell) → cell_of new.cells other ≡ Some cell → P other cell
cells-offered P old new st label way offered here each other cell found = by_test (is_lower label (cell_of old.cells st)) refl
  where
    at_state : is_lower label (cell_of old.cells st) ≡ true → (b : Bool) → state_eq other st ≡ b → P other cell
    at_state lower true is =
        let same : other ≡ st = same_state other st is in
        let one : Some (cell_with label way) ≡ Some cell =
        sym (written-cell old new st label way (offered.written lower)) ∙ subst (λ u. cell_of new.cells u ≡ Some cell) same found in
        let cells : cell_with label way ≡ cell = cc in
        subst (λ u. P u cell) (sym same) (subst (P st) cells here)
    at_state lower false is = each other cell (sym (written-other old new st label way (offered.written lower) other is) ∙ found)

    by_test : (b : Bool) → is_lower label (cell_of old.cells st) ≡ b → P other cell
    by_test true is = at_state is (state_eq other st) refl
    by_test false is = each other cell (subst (λ (sheet : Sheet). cell_of sheet.cells other ≡ Some cell) (offered.passed is) found)

distinct-offered : (old new : Sheet) (st : State) (label : ℕ) (way : Way) → IsOffered old st label way new
    → IsDistinct state_eq (keys_of old.cells) → IsDistinct state_eq (keys_of new.cells)
distinct-offered old new st label way offered distinct = by_test (is_lower label (cell_of old.cells st)) refl
  where
    by_test : (b : Bool) → is_lower label (cell_of old.cells st) ≡ b → IsDistinct state_eq (keys_of new.cells)
    by_test true is = (offered.written is).distinct
    by_test false is = subst (λ (sheet : Sheet). IsDistinct state_eq (keys_of sheet.cells)) (sym (offered.passed is)) distinct

module _ (s : Setting) (n room at : ℕ) (e : Settled) where
  -- nothing was offered
  pub continues-none : (old : Sheet) → Continues s n room at e old old
  continues-none old = record {
    ordered = λ from arena ordered. ordered;
    attained = λ base from arena last after attained. attained;
    known = λ known. known;
    lower = λ st most listed. listed;
    within = λ within. within;
  }

  -- one after the other
  pub continues-then : (old mid new : Sheet) → Continues s n room at e old mid → Continues s n room at e mid new → Continues s n room at e old new
  continues-then old mid new first second = record {
    ordered = λ from arena ordered. second.ordered from arena (first.ordered from arena ordered);
    attained = λ base from arena last after attained. second.attained base from arena last after (first.attained base from arena last after attained);
    known = λ known. second.known (first.known known);
    lower = λ st most listed. second.lower st most (first.lower st most listed);
    within = λ within. second.within (first.within within);
  }

  pub crowd-later : (old mid : Sheet) → Continues s n room at e old mid → ShowsCrowd s n room at e mid → ShowsCrowd s n room at e old
  crowd-later old mid first shows =
      λ base from arena last after attained. shows base from arena last after (first.attained base from arena last after attained)

  -- a gain that is listed is listed later
  pub gain-later : (old new : Sheet) → Continues s n room at e old new → (label : ℕ) (gain : Option Gain)
      → IfSome gain (IsGainListed old.cells label) → IfSome gain (IsGainListed new.cells label)
  gain-later old new later label None listed = tt
  gain-later old new later label (Some gain) listed = later.lower gain.state (cut (label + gain.cost)) listed

-- a state that is listed is attained, and so reached
cells-reached : (s : Setting) (n : ℕ) (cells : List (State × Cell)) → IsDistinct state_eq (keys_of cells)
    → ((st : State) (cell : Cell) → cell_of cells st ≡ Some cell → IsReached s n st) → AllByRecursion (IsReached s n) (keys_of cells)
unfolding IsDistinct
cells-reached s n [] distinct each = tt
cells-reached s n (c ∷ cells) distinct each = (
  each c.0 c.1 (ap (λ b. cond b (Some c.1) (cell_of cells c.0)) (state_eq-itself c.0)),
  cells-reached s n cells distinct.1 (λ st cell found. each st cell (later st cell found (state_eq st c.0) refl)),
)
  where
    later : (st : State) (cell : Cell) → cell_of cells st ≡ Some cell → (b : Bool) → state_eq st c.0 ≡ b → cell_of (c ∷ cells) st ≡ Some cell
    later st cell found true is = absurd (apart cells distinct.0 found)
      where
        apart : (rest : List (State × Cell)) → AllByRecursion (λ y. state_eq c.0 y ≡ false) (keys_of rest) → cell_of rest st ≡ Some cell → ⊥
        apart [] all found = cc
        apart (d ∷ rest) all found =
            let same : st ≡ c.0 = same_state st c.0 is in
            let here : state_eq st d.0 ≡ false = subst (λ u. state_eq u d.0 ≡ false) (sym same) all.0 in
            apart rest all.1 (sym (ap (λ b. cond b (Some d.1) (cell_of rest st)) here) ∙ found)
    later st cell found false is = ap (λ b. cond b (Some c.1) (cell_of cells st)) is ∙ found

attained-reached : (s : Setting) (arena : List Settled) (n base top : ℕ) (st : State) (label : ℕ) (way : Way)
    → IsAttained s arena n base top st label way → IsReached s n st
attained-reached s arena n base top st label way is =
    record { term = is.term; reaches = record { stands = is.stands; arrives = is.arrives } }

absent-apart : (cells : List (State × Cell)) (st : State) → cell_of cells st ≡ None → AllByRecursion (λ y. state_eq st y ≡ false) (keys_of cells)
absent-apart [] st absent = tt
absent-apart (c ∷ cells) st absent = by_test (state_eq st c.0) refl (absent-apart cells st)
  where
    by_test : (b : Bool) → state_eq st c.0 ≡ b → (cell_of cells st ≡ None → AllByRecursion (λ y. state_eq st y ≡ false) (keys_of cells))
        → AllByRecursion (λ y. state_eq st y ≡ false) (keys_of (c ∷ cells))
    by_test true is further =
        let some : Some c.1 ≡ None = sym (ap (λ b. cond b (Some c.1) (cell_of cells st)) is) ∙ absent in cc
    by_test false is further = (is, further (sym (ap (λ b. cond b (Some c.1) (cell_of cells st)) is) ∙ absent))

distinct-more : (st : State) (states : List State) → AllByRecursion (λ y. state_eq st y ≡ false) states → IsDistinct state_eq states
    → IsDistinct state_eq (st ∷ states)
unfolding IsDistinct
distinct-more st states apart distinct = (apart, distinct)

-- where a new state is refused that is reached as those are that are listed, too many are
pub crowd-refused : (s : Setting) (n room : ℕ) (sheet : Sheet) (st : State) → IsRefused room sheet st
    → IsDistinct state_eq (keys_of sheet.cells) → IsReached s n st
    → ((other : State) (cell : Cell) → cell_of sheet.cells other ≡ Some cell → IsReached s n other) → IsCrowded s n room
crowd-refused s n room sheet st refused distinct here each =
    let count : length (keys_of sheet.cells) ≡ length sheet.cells = length-keys_of sheet.cells in
    let full : room ≤ length sheet.cells = refused.full in
    record {
      states = st ∷ keys_of sheet.cells;
      more = omega arith;
      differ = distinct-more st (keys_of sheet.cells) (absent-apart sheet.cells st refused.new) distinct;
      reached =
          All-cons (IsReached s n) st (keys_of sheet.cells) here
          (All-from_recursion (IsReached s n) (keys_of sheet.cells) (cells-reached s n sheet.cells distinct each));
    }

module _ (s : Setting) (ready : IsReady s) (n : NodeId) (room at : ℕ) (e : Settled) (held : IsHeldAt s n.0 e.state) (last_step : Step)
    (stays : Stays last_step) (gain : Gain) (gains : step_gain s n last_step e.state None ≡ Some gain) where
  gained : (base from : ℕ) (arena : List Settled) (sheet : Sheet) → IsLast arena at e → from ≤ at → AreAttained s n.0 base from arena sheet
      → IsMet s arena n.0 base from (length arena) gain.state (cut (e.label + gain.cost)) (way.One last_step at)
  gained base from arena sheet last after attained = record {
    attained =
        step-attained s ready arena n base at e last_step gain stays last.there (attained.block at e after last.there).attained gains;
    traced =
        let high : length arena ≡ at + 1 = last.last in
        step-traced s arena n from at e last_step gain stays held last.there (record { low = after; high = omega arith }) gains;
  }

  -- a gain of the last settled state was offered
  pub continues-offered : (old new : Sheet) (label : ℕ) → label ≡ cut (e.label + gain.cost) → e.label ≤ label
      → IsOffered old gain.state label (way.One last_step at) new → IsHeldAt s n.0 gain.state
      → (length old.cells ≤ room → length new.cells ≤ room) → Continues s n.0 room at e old new
  continues-offered old new label sum high offered known within = record {
    ordered = λ from arena ordered.
        ordered-offered from arena old new e.label ordered gain.state label (way.One last_step at) offered high;
    attained = λ base from arena last after attained.
        record {
          cells = cells-offered (λ (st : State) (cell : Cell). IsMet s arena n.0 base from (length arena) st cell.label cell.way) old new
              gain.state label (way.One last_step at) offered
              (subst (λ l. IsMet s arena n.0 base from (length arena) gain.state l (way.One last_step at)) (sym sum)
              (gained base from arena old last after attained))
              attained.cells;
          block = attained.block;
          distinct = distinct-offered old new gain.state label (way.One last_step at) offered attained.distinct;
        };
    known = cells-offered (λ (st : State) (cell : Cell). IsHeldAt s n.0 st) old new gain.state label (way.One last_step at) offered known;
    lower = offered-lower old new gain.state label (way.One last_step at) offered;
    within = within;
  }

  -- and is listed
  pub gain-listed : (old new : Sheet) (label : ℕ) → label ≡ cut (e.label + gain.cost) → IsOffered old gain.state label (way.One last_step at) new
      → IsGainListed new.cells e.label gain
  gain-listed old new label sum offered =
      subst (IsListedOn new.cells gain.state) sum (offered-listed old new gain.state label (way.One last_step at) offered)

  -- or it was refused
  pub crowd-gained : (old : Sheet) → IsRefused room old gain.state → ShowsCrowd s n.0 room at e old
  crowd-gained old refused =
      λ base from arena last after attained.
      crowd-refused s n.0 room old gain.state refused attained.distinct
      (attained-reached s arena n.0 base (length arena + 1) gain.state (cut (e.label + gain.cost)) (way.One last_step at)
      (gained base from arena old last after attained).attained)
      (λ other cell found.
      attained-reached s arena n.0 base (length arena + 1) other cell.label cell.way (attained.cells other cell found).attained)

distinct-none : IsDistinct state_eq []
unfolding IsDistinct
distinct-none = tt

-- at first nothing has arrived
pub gathered-blank : (s : Setting) (n base room : ℕ) (arena : List Settled) (sheet : Sheet) → IsBlank sheet → IsGathered s n base room arena sheet
gathered-blank s n base room arena sheet blank = record {
  ordered = ordered-blank arena sheet blank;
  attained = record {
    cells = λ st cell found. let none : None ≡ Some cell = absent st ∙ found in cc;
    block = λ place e after there.
        let within : place < length arena = slice_get_within arena place e there in absurd (omega arith);
    distinct = subst (λ (cells : List (State × Cell)). IsDistinct state_eq (keys_of cells)) (sym blank.cells) distinct-none;
  };
  known = λ st cell found. let none : None ≡ Some cell = absent st ∙ found in cc;
  within = let empty : length sheet.cells ≡ 0 = ap length blank.cells in omega arith;
}
  where
    absent : (st : State) → None ≡ cell_of sheet.cells st
    absent st = sym (ap (λ cells. cell_of cells st) blank.cells)

-- then a state arrives that is attained
pub gathered-offered : (s : Setting) (n base room : ℕ) (arena : List Settled) (old new : Sheet) (st : State) (label : ℕ) (way : Way)
    → IsGathered s n base room arena old → IsOffered old st label way new → IsMet s arena n base (length arena) (length arena) st label way
    → IsHeldAt s n st → (length old.cells ≤ room → length new.cells ≤ room) → IsGathered s n base room arena new
gathered-offered s n base room arena old new st label way gathered offered here known within = record {
  ordered = ordered-offered (length arena) arena old new 0 gathered.ordered st label way offered (omega arith);
  attained = record {
    cells = cells-offered (λ (other : State) (cell : Cell). IsMet s arena n base (length arena) (length arena) other cell.label cell.way) old new
        st label way offered here gathered.attained.cells;
    block = gathered.attained.block;
    distinct = distinct-offered old new st label way offered gathered.attained.distinct;
  };
  known = cells-offered (λ (other : State) (cell : Cell). IsHeldAt s n other) old new st label way offered known gathered.known;
  within = within gathered.within;
}

-- or is refused, since too many are reached
pub gathered-refused : (s : Setting) (n base room : ℕ) (arena : List Settled) (sheet : Sheet) (st : State) (label : ℕ) (way : Way)
    → IsGathered s n base room arena sheet → IsRefused room sheet st → IsMet s arena n base (length arena) (length arena) st label way
    → IsCrowded s n room
gathered-refused s n base room arena sheet st label way gathered refused here =
    crowd-refused s n room sheet st refused gathered.attained.distinct
    (attained-reached s arena n base (length arena + 1) st label way here.attained)
    (λ other cell found.
    attained-reached s arena n base (length arena + 1) other cell.label cell.way (gathered.attained.cells other cell found).attained)
