-- What is gained across attributes: it is met as other gains are, and where a node's states are settled, the states across all attributes
-- that their holders see plain are, though from a state that was itself reached across one, only those before it are tried.
use Rattle.std.proofs.Common.{◌≡◌, ℕ, zero, suc, ◌+◌, ◌-◌, ◌^◌, ◌≤◌, ◌<◌, ◌==◌, ◌⊎◌, inl, inr, Bool, true, false, ◌&&◌, List, [], length, Option, Some, None, if◌then◌else◌, bit_and, slice_get, refl, sym, ◌∙◌, ap, subst, arith, min}
use Rattle.std.specs.Prelude.{IfSome, option_map}
use Rattle.std.proofs.lemmas.Nat.Bits.{bit_at_ones}
use Rattle.std.proofs.lemmas.Option.{get_or_from_slice_get}
use Rattle.base_laws.specs.Sets.{has}
use Rattle.base_laws.proofs.SetLaws.{has-bit_and}
use Rattle.mq_base.specs.declared.ids.AttrId.{AttrId}
use Rattle.mq_base.specs.declared.ids.NodeId.{NodeId}
use Rattle.mq_base.specs.declared.plan.Step.{Step}
use Rattle.mq_base.specs.declared.plan.Step.TheVariants as step
use Rattle.cost_model.specs.Costs.{cut, sealing}
use Rattle.extended_plan.specs.declared.state.State.{State}
use Rattle.extended_plan.specs.Gains.{Gain, across, cross_gain, crossable, dec_gain, enc_gain, step_gain}
use Rattle.extended_plan.specs.Job.{IsHeldAt}
use Rattle.extended_plan.specs.Setting.{Setting}
use Rattle.extended_plan.proofs.CrossLaws.{across-back, across-turned, crypts_across}
use Rattle.assign_table.specs.declared.cell.Cell.{Cell}
use Rattle.assign_table.specs.declared.way.Settled.{Settled}
use Rattle.assign_table.specs.declared.way.Way.{Way}
use Rattle.assign_table.specs.declared.way.Way.TheVariants as way
use Rattle.assign_table.specs.inside.Blocks.{IsFrom, IsSettled}
use Rattle.assign_table.specs.inside.Crossing.{IsCrossed, IsTraced, IsTried, crossed_label, crossing}
use Rattle.assign_table.specs.inside.Cells.{IsListedOn}
use Rattle.assign_table.specs.inside.Settling.{IsGainIn, Stays}
use Rattle.assign_table.specs.inside.Ways.{settled_at}

-- what is gained across an attribute
pub record IsAcross (s : Setting) (n : ℕ) (a : ℕ) (st : State) (gain : Gain) : Type 0 where
  pub crosses : has (crossable s n st.holder) a ≡ true
  pub state : gain.state ≡ across a st
  pub cost : gain.cost ≡ sealing s.basis a st.holder.0 n

pub gained-across : (s : Setting) (n : ℕ) (a : AttrId) (st : State) (gain : Gain) → cross_gain s n a st ≡ Some gain → IsAcross s n a.0 st gain
gained-across s n a st gain is = by_test (has (crossable s n st.holder) a.0) refl
  where
    there : Gain
    there = record { state = across a.0 st; cost = sealing s.basis a.0 st.holder.0 n }

    by_test : (b : Bool) → has (crossable s n st.holder) a.0 ≡ b → IsAcross s n a.0 st gain
    by_test true crosses =
        let some : Some there ≡ Some gain = sym (ap (λ b. if b then Some there else None) crosses) ∙ is in
        let same : there ≡ gain = cc in
        record {
          crosses = crosses;
          state = sym (ap (λ (g : Gain). g.state) same);
          cost = sym (ap (λ (g : Gain). g.cost) same);
        }
    by_test false crosses =
        let none : None ≡ Some gain = sym (ap (λ b. if b then Some there else None) crosses) ∙ is in cc

-- an encryption or a decryption gains what is gained across its attribute
module _ (s : Setting) (n : ℕ) (a : AttrId) (st : State) (held : IsHeldAt s n st) (gain : Gain) where
  pub enc-across : enc_gain s n a st ≡ Some gain → IsAcross s n a.0 st gain
  enc-across is = by_test (has st.view.enc.0 a.0) (sym (crypts_across s n a st held).enc ∙ is)
    where
      by_test : (b : Bool) → (if b then None else cross_gain s n a st) ≡ Some gain → IsAcross s n a.0 st gain
      by_test true is = cc
      by_test false is = gained-across s n a st gain is

  pub dec-across : dec_gain s n a st ≡ Some gain → IsAcross s n a.0 st gain
  dec-across is = by_test (has st.view.enc.0 a.0) (sym (crypts_across s n a st held).dec ∙ is)
    where
      by_test : (b : Bool) → (if b then cross_gain s n a st else None) ≡ Some gain → IsAcross s n a.0 st gain
      by_test true is = gained-across s n a st gain is
      by_test false is = cc

-- the one of the two that can run gains it
pub crypt-gains : (s : Setting) (n : NodeId) (a : AttrId) (st : State) (b : Bool) → IsHeldAt s n.0 st → has st.view.enc.0 a.0 ≡ b
    → step_gain s n (if b then step.Dec a else step.Enc a) st None ≡ cross_gain s n.0 a st
crypt-gains s n a st true held is = (crypts_across s n.0 a st held).dec ∙ ap (λ b. if b then cross_gain s n.0 a st else None) is
crypt-gains s n a st false held is = (crypts_across s n.0 a st held).enc ∙ ap (λ b. if b then None else cross_gain s n.0 a st) is

pub crypt-stays : (a : AttrId) (b : Bool) → Stays (if b then step.Dec a else step.Enc a)
crypt-stays a true = tt
crypt-stays a false = tt

-- what is gained from a holder that sees the attribute plain is listed at its label
pub cross-listed : (s : Setting) (n : ℕ) (a : AttrId) (e : Settled) (cells : List (State × Cell))
    → has (crossable s n e.state.holder) a.0 ≡ true
    → IfSome (cross_gain s n a e.state) (λ gain. IsListedOn cells gain.state (cut (e.label + gain.cost)))
    → IsListedOn cells (across a.0 e.state) (crossed_label s n a.0 e)
cross-listed s n a e cells crosses listed =
    subst (λ (found : Option Gain). IfSome found (λ gain. IsListedOn cells gain.state (cut (e.label + gain.cost))))
    (ap (λ b. if b then Some (record { state = across a.0 e.state; cost = sealing s.basis a.0 e.state.holder.0 n }) else None) crosses) listed

-- ---- traces

-- a state across an attribute of one that is settled at a place
module _ (s : Setting) (arena : List Settled) (n from top a place : ℕ) (e : Settled) (here : settled_at arena place ≡ e) (inside : IsFrom from top place)
    (gain : Gain) (is : IsAcross s n a e.state gain) where
  crossed_from : IsCrossed s arena n from top a place gain.state (cut (e.label + gain.cost))
  crossed_from = record {
    inside = inside;
    crosses = subst (λ (f : Settled). has (crossable s n f.state.holder) a ≡ true) (sym here) is.crosses;
    state = subst (λ (f : Settled). gain.state ≡ across a f.state) (sym here) is.state;
    costs = subst (λ (f : Settled). cut (e.label + gain.cost) ≡ crossed_label s n a f) (sym here) (ap (λ cost. cut (e.label + cost)) is.cost);
  }

-- what a step gains that stays at its node is traced
pub step-traced : (s : Setting) (arena : List Settled) (n : NodeId) (from at : ℕ) (e : Settled) (act : Step) (gain : Gain) → Stays act
    → IsHeldAt s n.0 e.state → slice_get arena at ≡ Some e → IsFrom from (length arena) at → step_gain s n act e.state None ≡ Some gain
    → IsTraced s arena n.0 from (length arena) gain.state (cut (e.label + gain.cost)) (way.One act at)
step-traced s arena n from at e (step.Enc a) gain stays held there inside gains =
    crossed_from s arena n.0 from (length arena) a.0 at e (get_or_from_slice_get arena at e (settled_at [] 0) there) inside gain
    (enc-across s n.0 a e.state held gain gains)
step-traced s arena n from at e (step.Dec a) gain stays held there inside gains =
    crossed_from s arena n.0 from (length arena) a.0 at e (get_or_from_slice_get arena at e (settled_at [] 0) there) inside gain
    (dec-across s n.0 a e.state held gain gains)
step-traced s arena n from at e (step.Send to) gain stays held there inside gains = tt
step-traced s arena n from at e (step.Base t) gain stays held there inside gains = absurd stays
step-traced s arena n from at e (step.Un m) gain stays held there inside gains = absurd stays
step-traced s arena n from at e (step.Bin m) gain stays held there inside gains = absurd stays

-- ---- the attributes that are tried, in a loop over them

-- an attribute that is tried by a way is one of those before the one across which it leads
pub tried-before : (by : Way) (last : AttrId) (a : ℕ) → Some last ≡ option_map (λ (c : AttrId × ℕ). c.0) (crossing by) → IsTried by a → a < last.0
tried-before by last a is tried = by_case (crossing by) is tried
  where
    by_case : (found : Option (AttrId × ℕ)) → Some last ≡ option_map (λ (c : AttrId × ℕ). c.0) found → IfSome found (λ c. a < c.0.0) → a < last.0
    by_case None is tried = cc
    by_case (Some c) is tried = let same : last ≡ c.0 = cc in subst (λ (b : AttrId). a < b.0) (sym same) tried

-- and is left in the set of those
pub tried-all : (all last a : ℕ) → has all a ≡ true → a < last → has (bit_and all (2 ^ last - 1)) a ≡ true
tried-all all last a inside low =
    has-bit_and all (2 ^ last - 1) a ∙ ap (λ b. b && has (2 ^ last - 1) a) inside ∙ ap (λ k. k == 1) (bit_at_ones last a low)

-- ---- where all is settled

-- a label cut once more, or less often
cut-back : (label cost most : ℕ) → label ≤ most → label ≤ min (min (label + cost) most + cost) most
cut-back label cost most fits = omega arith

cut-turned : (label first second most low : ℕ) → low ≤ min (label + first) most
    → min (low + second) most ≤ min (min (label + second) most + first) most
cut-turned label first second most low less = omega arith

-- a number is below another, is it, or is above it
by-order : (a b : ℕ) → (a < b) ⊎ ((a ≡ b) ⊎ (b < a))
by-order a b = grind arith

module _ (s : Setting) (n from : ℕ) (arena : List Settled) where
  -- the state across an attribute of that at a place is settled, at its label
  abbrev IsCrossedIn : ℕ → ℕ → Type 0
  IsCrossedIn a w =
      IsSettled arena from (length arena) (across a (settled_at arena w).state) (crossed_label s n a (settled_at arena w))

  abbrev Crosses : ℕ → ℕ → Type 0
  Crosses a w = has (crossable s n (settled_at arena w).state.holder) a ≡ true

  module _ (tried : (w a : ℕ) → IsFrom from (length arena) w → Crosses a w → IsTried (settled_at arena w).way a → IsCrossedIn a w)
      (traced : (w : ℕ) → IsFrom from (length arena) w
      → IsTraced s arena n from w (settled_at arena w).state (settled_at arena w).label (settled_at arena w).way)
      (fits : (w : ℕ) → IsFrom from (length arena) w → (settled_at arena w).label ≤ 2 ^ 128 - 1) where
    -- a state that was reached across an attribute from another
    module _ (w p a b : ℕ) (inside : IsFrom from (length arena) w)
        (at : IsCrossed s arena n from w a p (settled_at arena w).state (settled_at arena w).label) where
      source : IsFrom from (length arena) p
      source = let low : from ≤ p = at.inside.low in let high : p < w = at.inside.high in let end : w < length arena = inside.high in
          record { low = at.inside.low; high = omega arith }

      -- back across it is where it came from
      crossed_back : a ≡ b → IsCrossedIn b w
      crossed_back same =
          subst (λ k. IsCrossedIn k w) same
          (record {
            place = p;
            inside = source;
            same = sym (ap (across a) at.state ∙ across-back a (settled_at arena p).state);
            enough =
                subst (λ (st : State). (settled_at arena p).label ≤ cut ((settled_at arena w).label + sealing s.basis a st.holder.0 n)) (sym at.state)
                (subst (λ l. (settled_at arena p).label ≤ cut (l + sealing s.basis a (settled_at arena p).state.holder.0 n)) (sym at.costs)
                (cut-back (settled_at arena p).label (sealing s.basis a (settled_at arena p).state.holder.0 n) (2 ^ 128 - 1) (fits p source)));
          })

      source_crosses : Crosses b w → Crosses b p
      source_crosses crosses = subst (λ (st : State). has (crossable s n st.holder) b ≡ true) at.state crosses

      -- across another and then across it is where it and then the other leads
      crossed_turned : (q : ℕ) → (settled_at arena q).state ≡ across b (settled_at arena p).state
          → (settled_at arena q).label ≤ crossed_label s n b (settled_at arena p) → IsCrossedIn a q → IsCrossedIn b w
      crossed_turned q state label there = record {
        place = there.place;
        inside = there.inside;
        same =
            there.same ∙ ap (across a) state ∙ across-turned a b (settled_at arena p).state ∙ ap (across b) (sym at.state);
        enough =
            let h : ℕ = (settled_at arena p).state.holder.0 in
            let less : (settled_at arena there.place).label ≤ cut ((settled_at arena q).label + sealing s.basis a h n) =
            subst (λ (st : State). (settled_at arena there.place).label ≤ cut ((settled_at arena q).label + sealing s.basis a st.holder.0 n)) state there.enough in
            let turned =
            cut-turned (settled_at arena p).label (sealing s.basis b h n) (sealing s.basis a h n) (2 ^ 128 - 1) (settled_at arena q).label label in
            subst (λ (st : State). (settled_at arena there.place).label ≤ cut ((settled_at arena w).label + sealing s.basis b st.holder.0 n)) (sym at.state)
            (subst (λ l. (settled_at arena there.place).label ≤ cut (l + sealing s.basis b h n)) (sym at.costs) (at-most less turned));
      }
        where
          at-most : {x y z : ℕ} → x ≤ y → y ≤ z → x ≤ z
          at-most first second = omega (arith, first, second)

    -- the state across an attribute is settled where it was not tried: by the state from which this one was reached, and by a lower attribute
    by_way : (most b : ℕ) → b < suc most → ((a : ℕ) → a < most → (w : ℕ) → IsFrom from (length arena) w → Crosses a w → IsCrossedIn a w)
        → (w : ℕ) → IsFrom from (length arena) w → Crosses b w
        → ((p : ℕ) → p < w → IsFrom from (length arena) p → Crosses b p → IsCrossedIn b p) → (found : Option (AttrId × ℕ))
        → IfSome found (λ c. IsCrossed s arena n from w c.0.0 c.1 (settled_at arena w).state (settled_at arena w).label)
        → (IfSome found (λ c. b < c.0.0) → IsCrossedIn b w) → IsCrossedIn b w
    by_way most b low lower w inside crosses earlier None at try = try tt
    by_way most b low lower w inside crosses earlier (Some (a, p)) at try =
        by_attribute (earlier p at.inside.high (source w p a.0 b inside at) (source_crosses w p a.0 b inside at crosses)) (by-order b a.0)
      where
        by_attribute : IsCrossedIn b p → (b < a.0) ⊎ ((b ≡ a.0) ⊎ (a.0 < b)) → IsCrossedIn b w
        by_attribute next (inl less) = try less
        by_attribute next (inr (inl same)) = crossed_back w p a.0 b inside at (sym same)
        by_attribute next (inr (inr more)) =
            crossed_turned w p a.0 b inside at next.place next.same next.enough
            (lower a.0 (omega (arith, low, more)) next.place next.inside
            (subst (λ (st : State). has (crossable s n st.holder) a.0 ≡ true) (sym next.same) at.crosses))

    by_place : (most b : ℕ) → b < suc most → ((a : ℕ) → a < most → (w : ℕ) → IsFrom from (length arena) w → Crosses a w → IsCrossedIn a w)
        → (top w : ℕ) → w < top → IsFrom from (length arena) w → Crosses b w → IsCrossedIn b w
    by_place most b low lower zero w below inside crosses = absurd (omega (arith, below))
    by_place most b low lower (suc top) w below inside crosses =
        by_way most b low lower w inside crosses
        (λ p before source crosses. by_place most b low lower top p (omega (arith, before, below)) source crosses)
        (crossing (settled_at arena w).way) (traced w inside) (tried w b inside crosses)

    -- and so all are
    all_crossed : (most b : ℕ) → b < most → (w : ℕ) → IsFrom from (length arena) w → Crosses b w → IsCrossedIn b w
    all_crossed zero b low w inside crosses = absurd (omega (arith, low))
    all_crossed (suc most) b low w inside crosses = by_place most b low (all_crossed most) (suc w) w (omega arith) inside crosses

    pub each_crossed : (w a : ℕ) → IsFrom from (length arena) w → Crosses a w → IsCrossedIn a w
    each_crossed w a inside crosses = all_crossed (a + 1) a (omega arith) w inside crosses

-- and so what each encryption and decryption gains is
pub crossing-in : (s : Setting) (n from to : ℕ) (arena : List Settled) (w a : ℕ) (gain : Gain) → IsAcross s n a (settled_at arena w).state gain
    → IsSettled arena from to (across a (settled_at arena w).state) (crossed_label s n a (settled_at arena w))
    → IsGainIn arena from to (settled_at arena w).label gain
crossing-in s n from to arena w a gain is there =
    subst (λ (st : State). IsSettled arena from to st (cut ((settled_at arena w).label + gain.cost))) (sym is.state)
    (subst (λ cost. IsSettled arena from to (across a (settled_at arena w).state) (cut ((settled_at arena w).label + cost))) (sym is.cost) there)
