-- Entries in the order of their states, of which no two are one, ascend.
use Rattle.std.proofs.Common.{◌≡◌, ℕ, suc, ◌+◌, ◌-◌, ◌≤◌, ◌<◌, true, false, List, [], ◌∷◌, length, get_or, map, refl, sym, ◌∙◌, ap, arith}
use Rattle.std.specs.Prelude.{slice_range}
use Rattle.std.specs.Cmp.{IsTotalOrder, on_total, then_total}
use Rattle.std.specs.List.{IsDistinct}
use Rattle.std.specs.List.Sorted.{IsPermutation, IsSortedByKey}
use Rattle.std.specs.Ordering.{is_gt, is_lt, nat_cmp, ordering_reverse, ordering_then}
use Rattle.std.specs.declared.cmp.Ordering.{Ordering}
use Rattle.std.specs.declared.cmp.Ordering.TheVariants.{Less, Equal, Greater}
use Rattle.std.proofs.lemmas.Cmp.{nat_cmp_total}
use Rattle.std.proofs.lemmas.List.{get_or-map, length-map}
use Rattle.std.proofs.lemmas.List.MinMax.{ranks_by}
use Rattle.std.proofs.lemmas.List.Sorted.{IsPermutation-map, sorted_far}
use Rattle.std.proofs.lemmas.Map.Keys.{IsDistinct-IsPermutation, IsDistinct-from_apart, IsDistinct-tail, apart_from_distinct}
use Rattle.std.proofs.Math.Path.{subst}
use Rattle.base_laws.proofs.NumberLaws.{upto_is}
use Rattle.extended_plan.specs.declared.state.Entry.{Entry}
use Rattle.extended_plan.specs.declared.state.State.{State}
use Rattle.extended_plan.specs.Certificate.{IsAscending, state_cmp}
use Rattle.extended_plan.specs.States.{state_eq}
use Rattle.extended_plan.proofs.EntryLaws.{same_state, state_eq-itself}
use Rattle.assign_table.specs.declared.way.Settled.{Settled}
use Rattle.assign_table.specs.inside.Blocks.{AreApart, AreEntriesOf, entries_from, entry_of}
use Rattle.assign_table.specs.inside.Ways.{settled_at}
use Rattle.assign_table.proofs.CountLaws.{decides-equivalence}
use Rattle.assign_table.proofs.PlaceLaws.{range-at, range-length}

-- the order of states is total
state_total : IsTotalOrder state_cmp
state_total =
    then_total (on_total (λ (st : State). st.holder.0) nat_cmp_total)
    (then_total (on_total (λ (st : State). st.view.enc.0) nat_cmp_total)
    (then_total (on_total (λ (st : State). st.view.ip.0) nat_cmp_total) (on_total (λ (st : State). st.view.ie.0) nat_cmp_total)))

-- states that tie are one
both_tied : (a b : Ordering) → ordering_then a b ≡ Equal → (a ≡ Equal) × (b ≡ Equal)
both_tied Less b tied = cc
both_tied Equal b tied = (refl, tied)
both_tied Greater b tied = cc

number_tied : (m n : ℕ) → nat_cmp m n ≡ Equal → m ≡ n
number_tied m n tied =
    let low : m ≤ n = upto_is m n (ap is_gt tied) in
    let high : n ≤ m = upto_is n m (ap is_gt (nat_cmp_total.antisymm n m ∙ ap ordering_reverse tied)) in
    omega (arith, low, high)

state_tied : (s t : State) → state_cmp s t ≡ Equal → s ≡ t
state_tied s t tied =
    let holders = both_tied _ _ tied in
    let sealed = both_tied _ _ holders.1 in
    let implicit = both_tied _ _ sealed.1 in
    state_of (number_tied s.holder.0 t.holder.0 holders.0) (number_tied s.view.enc.0 t.view.enc.0 sealed.0)
    (number_tied s.view.ip.0 t.view.ip.0 implicit.0) (number_tied s.view.ie.0 t.view.ie.0 implicit.1)
  where
    state_of : s.holder.0 ≡ t.holder.0 → s.view.enc.0 ≡ t.view.enc.0 → s.view.ip.0 ≡ t.view.ip.0 → s.view.ie.0 ≡ t.view.ie.0 → s ≡ t
    state_of holder enc ip ie = λ i. record {
      holder = record { 0 = holder i };
      view = record { enc = record { 0 = enc i }; ip = record { 0 = ip i }; ie = record { 0 = ie i } };
    }

-- of two states that are not one, that which is not after is before
less_from : (a b : State) → is_lt (state_cmp b a) ≡ false → state_eq a b ≡ false → state_cmp a b ≡ Less
less_from a b up apart = by_order (state_cmp a b) refl
  where
    by_order : (o : Ordering) → state_cmp a b ≡ o → state_cmp a b ≡ Less
    by_order Less is = is
    by_order Equal is =
        let itself : state_eq a b ≡ true = ap (state_eq a) (sym (state_tied a b is)) ∙ state_eq-itself a in
        absurd (differ (sym itself ∙ apart))
      where
        differ : true ≡ false → ⊥
        differ e = cc
    by_order Greater is =
        let before : is_lt (state_cmp b a) ≡ true = ap is_lt (state_total.antisymm b a ∙ ap ordering_reverse is) in
        absurd (differ (sym before ∙ up))
      where
        differ : true ≡ false → ⊥
        differ e = cc

-- the states of entries
abbrev states_of : List Entry → List State
states_of es = map (λ (e : Entry). e.state) es

-- sorted entries of different states ascend
ascends : (es : List Entry) → IsDistinct state_eq (states_of es) → IsSortedByKey (λ (e : Entry). e.state) state_cmp es → IsAscending es
ascends [] differ up = tt
ascends (e ∷ rest) differ up = (
  λ k d below.
      less_from e.state (get_or rest k d).state
      (sorted_far (λ (x y : Entry). is_lt (state_cmp x.state y.state)) (ranks_by state_total (λ (x : Entry). x.state)) (e ∷ rest) up 0 (suc k) d (omega arith) (omega (arith, below)))
      (ap (state_eq e.state) (sym (get_or-map (λ (x : Entry). x.state) rest k d d.state below))
      ∙ apart_from_distinct state_eq (states_of (e ∷ rest)) 0 (suc k) d.state differ (omega arith) (omega (arith, below, length-map rest (λ (x : Entry). x.state)))),
  ascends rest (IsDistinct-tail state_eq e.state (states_of rest) differ) (λ k d low high.
      let next : suc k + 1 ≡ suc (k + 1) = omega arith in
      subst (λ m. is_lt (state_cmp (get_or (e ∷ rest) m d).state (get_or rest k d).state) ≡ false) next
      (up (suc k) d (omega arith) (omega (arith, high)))),
)

-- the test of states tells whether they are one
state_flips : (s t : State) → state_eq s t ≡ state_eq t s
state_flips = (decides-equivalence state_eq (λ s t. (same_state s t, λ same. ap (state_eq s) (sym same) ∙ state_eq-itself s))).symm

-- the states of a block, of which none is settled twice
block_distinct : (arena : List Settled) (from to : ℕ) → to ≤ length arena → AreApart arena from to → IsDistinct state_eq (states_of (entries_from arena from to))
block_distinct arena from to inside apart =
    IsDistinct-from_apart state_eq (states_of (entries_from arena from to)) (λ i j d before below.
    let long : length (slice_range arena from to) ≡ to - from = range-length arena from to inside in
    let high : j < to - from =
    omega (arith, below, long, length-map (slice_range arena from to) entry_of, length-map (entries_from arena from to) (λ (x : Entry). x.state)) in
    let low : i < to - from = omega (arith, before, high) in
    ap (λ st. state_eq st (get_or (states_of (entries_from arena from to)) j d)) (shown i d low)
    ∙ ap (state_eq (settled_at arena (from + i)).state) (shown j d high)
    ∙ apart (from + i) (from + j) (record { low = omega arith; high = omega (arith, low) }) (record { low = omega arith; high = omega (arith, high) }) (omega (arith, before)))
  where
    shown : (k : ℕ) (d : State) → k < to - from → get_or (states_of (entries_from arena from to)) k d ≡ (settled_at arena (from + k)).state
    shown k d below =
        let long : length (slice_range arena from to) ≡ to - from = range-length arena from to inside in
        get_or-map (λ (x : Entry). x.state) (entries_from arena from to) k (entry_of (settled_at [] 0)) d
        (omega (arith, below, long, length-map (slice_range arena from to) entry_of))
        ∙ ap (λ (x : Entry). x.state) (get_or-map entry_of (slice_range arena from to) k (settled_at [] 0) (entry_of (settled_at [] 0)) (omega (arith, below, long)))
        ∙ ap (λ (x : Settled). x.state) (range-at arena from to k (settled_at [] 0) below)

-- so the sorted entries of a block are those of the block in ascending order
pub sorted_entries : (arena : List Settled) (from to : ℕ) (es : List Entry) → to ≤ length arena → AreApart arena from to
    → IsPermutation (entries_from arena from to) es → IsSortedByKey (λ (e : Entry). e.state) state_cmp es → AreEntriesOf arena from to es
sorted_entries arena from to es inside apart moved up = record {
  moved = moved;
  ascending =
      ascends es
      (IsDistinct-IsPermutation state_eq state_flips (states_of (entries_from arena from to)) (states_of es)
      (IsPermutation-map (λ (x : Entry). x.state) (entries_from arena from to) es moved) (block_distinct arena from to inside apart)) up;
}
