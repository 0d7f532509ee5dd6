-- The labels of blocks that are done are the least ones.
use Rattle.std.proofs.Common.{◌≡◌, ℕ, zero, suc, ◌+◌, ◌≤◌, ◌<◌, Bool, true, false, List, [], ◌∷◌, ◌++◌, length, Some, if◌then◌else◌, ◌⊎◌, inl, inr, refl, sym, ◌∙◌, ap, arith, All}
use Rattle.std.specs.List.{Contains}
use Rattle.std.specs.declared.cmp.Ordering.TheVariants.{Less, Equal}
use Rattle.std.proofs.lemmas.List.{get_or_append_left, get_or_past, get_or_push, length-append}
use Rattle.std.proofs.lemmas.List.Elements.{All-nil, Contains-get_or}
use Rattle.std.proofs.lemmas.List.Sorted.{Contains-permutation, IsPermutation-sym}
use Rattle.std.proofs.Math.Path.{subst}
use Rattle.base_laws.proofs.OrderLaws.{nat_cmp-same}
use Rattle.cost_model.specs.Costs.{cut}
use Rattle.extended_plan.specs.declared.state.Entry.{Entry}
use Rattle.extended_plan.specs.declared.state.State.{State}
use Rattle.extended_plan.specs.Certificate.{AreLeastLabels, HasLabel, IsAscending, IsLeastEntry, entries_at, label_of, state_cmp}
use Rattle.extended_plan.specs.Ready.{IsReady}
use Rattle.extended_plan.specs.Setting.{Setting}
use Rattle.extended_plan.specs.States.{IsReached, cost, state_eq}
use Rattle.extended_plan.proofs.EntryLaws.{same_state, state_eq-itself}
use Rattle.extended_plan.proofs.ViewLaws.{seen}
use Rattle.assign_table.specs.declared.way.Settled.{Settled}
use Rattle.assign_table.specs.inside.Blocks.{AreDone, AreEntriesOf, AreLabelsOf, IsAttainedAt, IsPlaceOf, base_of, entry_of, start_of}
use Rattle.assign_table.specs.inside.Ways.{settled_at}
use Rattle.assign_table.proofs.BlockLaws.{bound}
use Rattle.assign_table.proofs.PlaceLaws.{range-Contains, range-place, starts_low}

-- a state is not before itself
pub state_cmp-same : (st : State) → state_cmp st st ≡ Equal
state_cmp-same st = rw (nat_cmp-same st.holder.0, nat_cmp-same st.view.enc.0, nat_cmp-same st.view.ip.0, nat_cmp-same st.view.ie.0) refl

-- states that the order puts apart are two
apart_from_less : (a b : State) → state_cmp a b ≡ Less → state_eq a b ≡ false
apart_from_less a b less = by_test (state_eq a b) refl
  where
    by_test : (x : Bool) → state_eq a b ≡ x → state_eq a b ≡ false
    by_test true same =
        let equal : state_cmp a b ≡ Equal = subst (λ c. state_cmp a c ≡ Equal) (same_state a b same) (state_cmp-same a) in
        cc
    by_test false other = other

-- the label of a listed entry is found by its state
pub label-listed : (es : List Entry) (e : Entry) → IsAscending es → Contains es e → label_of es e.state ≡ Some e.label
label-listed [] e up (k, below, is) = absurd (omega (arith, below))
label-listed (f ∷ rest) e up (zero, below, is) =
    subst (λ (g : Entry). label_of (f ∷ rest) g.state ≡ Some g.label) is
    (ap (λ b. if b then Some f.label else label_of rest f.state) (state_eq-itself f.state))
label-listed (f ∷ rest) e up (suc k, high, is) =
    let below : k < length rest = omega (arith, high) in
    let less : state_cmp f.state e.state ≡ Less = subst (λ (g : Entry). state_cmp f.state g.state ≡ Less) is (up.0 k e below) in
    ap (λ b. if b then Some f.label else label_of rest e.state) (apart_from_less f.state e.state less)
    ∙ label-listed rest e up.1 (k, below, is)

-- two places of a block whose states are one are one
one_place : (s : Setting) (arena : List Settled) (starts : List ℕ) (n m v w : ℕ) → AreDone s arena starts n → m < n → IsPlaceOf starts m v
    → IsPlaceOf starts m w → (settled_at arena v).state ≡ (settled_at arena w).state → v ≡ w
one_place s arena starts n m v w done below at at_too same = by_order (three v w)
  where
    three : (v w : ℕ) → (v < w) ⊎ (w < v) ⊎ (v ≡ w)
    three v w = grind arith

    clash : (a b : State) → a ≡ b → state_eq a b ≡ false → ⊥
    clash a b is apart = let itself : state_eq a b ≡ true = subst (λ c. state_eq a c ≡ true) is (state_eq-itself a) in cc

    by_order : (v < w) ⊎ (w < v) ⊎ (v ≡ w) → v ≡ w
    by_order (inl less) = absurd (clash _ _ same ((done.block m below).differ v w at at_too less))
    by_order (inr (inl more)) = absurd (clash _ _ (sym same) ((done.block m below).differ w v at_too at more))
    by_order (inr (inr is)) = is

-- what is settled at a place has the least cost of its state
settled_least : (s : Setting) → IsReady s → (arena : List Settled) (starts : List ℕ) (n m w : ℕ) → AreDone s arena starts n → m < n
    → IsPlaceOf starts m w → IsLeastEntry s m (entry_of (settled_at arena w))
settled_least s ready arena starts n m w done below at =
    let from : IsAttainedAt s arena m (base_of s starts m) w = (done.block m below).attained w at in
    record {
      term = from.term;
      reaches = record { stands = from.stands; arrives = from.arrives };
      label = from.costs;
      lowest = λ x reaches.
          let there = bound s ready arena starts n (λ k under. (done.block k under).closed) x m below reaches.stands in
          let same : there.place ≡ w = one_place s arena starts n m there.place w done below there.inside at (there.same ∙ reaches.arrives) in
          subst (λ v. (settled_at arena v).label ≤ cut (cost s x)) same there.enough;
    }

-- nothing is listed past the last node
past_end : (labels : List (List Entry)) (n m : ℕ) → length labels ≡ n → n ≤ m → entries_at labels m ≡ []
past_end labels n m each past = get_or_past labels m [] (omega (arith, each, past))

places : (m n : ℕ) → (m < n) ⊎ (n ≤ m)
places m n = grind arith

-- so the labels of all blocks are the least ones
pub least_labels : (s : Setting) → IsReady s → (arena : List Settled) (starts : List ℕ) (labels : List (List Entry))
    → AreDone s arena starts (length s.basis.nodes) → AreLabelsOf arena starts (length s.basis.nodes) labels → AreLeastLabels s labels
least_labels s ready arena starts labels done are = record {
  each = are.each;
  ascending = λ m. ascends m (places m (length s.basis.nodes));
  entries = λ m. least m (places m (length s.basis.nodes));
  reached = λ m st reached. listed m st reached;
}
  where
    ascends : (m : ℕ) → (m < (length s.basis.nodes)) ⊎ ((length s.basis.nodes) ≤ m) → IsAscending (entries_at labels m)
    ascends m (inl below) = (are.node m below).ascending
    ascends m (inr past) = subst IsAscending (sym (past_end labels (length s.basis.nodes) m are.each past)) tt

    one_least : (m : ℕ) (e : Entry) → m < (length s.basis.nodes) → Contains (entries_at labels m) e → IsLeastEntry s m e
    one_least m e below there =
        let here = Contains-permutation _ _ e (IsPermutation-sym _ _ (are.node m below).moved) there in
        let at = range-place entry_of arena (start_of starts m) (start_of starts (m + 1)) e (starts_low arena starts (length s.basis.nodes) done.blocks (m + 1) (omega (arith, below))) here in
        subst (IsLeastEntry s m) at.is (settled_least s ready arena starts (length s.basis.nodes) m at.place done below at.inside)

    least : (m : ℕ) → (m < (length s.basis.nodes)) ⊎ ((length s.basis.nodes) ≤ m) → All (IsLeastEntry s m) (entries_at labels m)
    least m (inl below) = λ k d under. one_least m _ below (Contains-get_or (entries_at labels m) k d under)
    least m (inr past) = subst (All (IsLeastEntry s m)) (sym (past_end labels (length s.basis.nodes) m are.each past)) (All-nil (IsLeastEntry s m))

    listed : (m : ℕ) (st : State) → IsReached s m st → HasLabel labels m st
    listed m st reached =
        let x = reached.term in
        let below : m < (length s.basis.nodes) = (seen s ready m x reached.reaches.stands.gives reached.reaches.stands.runs).node in
        let there = bound s ready arena starts (length s.basis.nodes) (λ k under. (done.block k under).closed) x m below reached.reaches.stands in
        let e : Entry = entry_of (settled_at arena there.place) in
        let here : Contains (entries_at labels m) e =
        Contains-permutation _ _ e (are.node m below).moved
        (range-Contains entry_of arena (start_of starts m) (start_of starts (m + 1)) there.place (starts_low arena starts (length s.basis.nodes) done.blocks (m + 1) (omega (arith, below))) there.inside) in
        record {
          label = e.label;
          listed =
              ap (label_of (entries_at labels m)) (sym (there.same ∙ reached.reaches.arrives))
              ∙ label-listed (entries_at labels m) e (are.node m below).ascending here;
        }

-- the labels of the blocks so far, as they are made: of none, and of one node more
pub labels_none : (arena : List Settled) (starts : List ℕ) → AreLabelsOf arena starts 0 []
labels_none arena starts = record { each = refl; node = λ m below. absurd (omega (arith, below)) }

pub labels_more : (arena : List Settled) (starts : List ℕ) (n : ℕ) (labels : List (List Entry)) (entries : List Entry) → AreLabelsOf arena starts n labels
    → AreEntriesOf arena (start_of starts n) (start_of starts (n + 1)) entries → AreLabelsOf arena starts (n + 1) (labels ++ entries ∷ [])
labels_more arena starts n labels entries are here = record {
  each = length-append labels (entries ∷ []) ∙ ap (λ k. k + 1) are.each;
  node = λ m below. each m (or_last m n below);
}
  where
    or_last : (m n : ℕ) → m < n + 1 → (m < n) ⊎ (m ≡ n)
    or_last m n below = grind arith

    last : AreEntriesOf arena (start_of starts n) (start_of starts (n + 1)) (entries_at (labels ++ entries ∷ []) n)
    last = subst (AreEntriesOf arena (start_of starts n) (start_of starts (n + 1))) (sym (get_or_push labels entries [] n are.each)) here

    each : (m : ℕ) → (m < n) ⊎ (m ≡ n) → AreEntriesOf arena (start_of starts m) (start_of starts (m + 1)) (entries_at (labels ++ entries ∷ []) m)
    each m (inl before) =
        subst (AreEntriesOf arena (start_of starts m) (start_of starts (m + 1)))
        (sym (get_or_append_left labels (entries ∷ []) [] m (omega (arith, are.each, before)))) (are.node m before)
    each m (inr is) =
        subst (λ k. AreEntriesOf arena (start_of starts k) (start_of starts (k + 1)) (entries_at (labels ++ entries ∷ []) k)) (sym is) last
