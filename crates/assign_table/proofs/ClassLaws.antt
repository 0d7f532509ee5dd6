-- Pairs of one class are all that gain anything at a node with two operands, and where each class is paired all of them are.
use Rattle.std.proofs.Common.{◌≡◌, ℕ, ◌+◌, ◌≤◌, ◌<◌, ◌==◌, ◌&&◌, ◌⊎◌, inl, inr, Bool, true, false, List, [], ◌∷◌, ◌++◌, length, Option, None, refl, sym, ◌∙◌, ap, subst, true≢false, arith}
use Rattle.std.specs.Prelude.{IfSome}
use Rattle.std.specs.List.{Contains}
use Rattle.std.proofs.lemmas.Bool.{eq-eqb, eqb-false, eqb-true}
use Rattle.std.proofs.lemmas.List.Elements.{Contains-append_left, Contains-push, Contains-push_cases}
use Rattle.mq_base.specs.declared.ids.AttrId.{AttrId}
use Rattle.mq_base.specs.declared.ids.NodeId.{NodeId}
use Rattle.mq_base.specs.declared.plan.PlanOp.{PlanOp}
use Rattle.plan_algebra.specs.declared.kind.Kind.TheVariants as kind
use Rattle.extended_plan.specs.declared.state.State.{State}
use Rattle.extended_plan.specs.Ready.{IsReady}
use Rattle.extended_plan.specs.Setting.{kind_at, op_at}
use Rattle.assign_table.specs.declared.gate.Gate.{Gate}
use Rattle.assign_table.specs.declared.cell.Cell.{Cell}
use Rattle.assign_table.specs.inside.Arrivals.{ArePairsOf, ArePlacesIn, ArePlacesOf, IsArrivedOn, IsClassListed, IsGate, IsHolderListed, IsPairListed, StaysOpen, gate_at, gate_setting, two_at}
use Rattle.assign_table.specs.inside.Blocks.{IsFrom, IsPlaceOf, start_of}
use Rattle.assign_table.specs.inside.Pairs.{compared_left, compared_right, is_in, is_same, is_sealed}
use Rattle.assign_table.specs.inside.Settling.{IsGainListed}
use Rattle.assign_table.specs.inside.Sheet.{Sheet}
use Rattle.assign_table.proofs.ArriveLaws.{IsTwoPlace, pair_still, places_more, two_places}
use Rattle.assign_table.proofs.PairLaws.{holders_apart, sealed_apart}

-- one more place is looked at, and is taken where it is in the class
module _ (gate : Gate) (compared : Option AttrId) (holder : ℕ) (sealed : Bool) (from at : ℕ) (low : from ≤ at) (places : List ℕ)
    (are : ArePlacesIn gate compared holder sealed from at places) where
  pub gathered_more : is_in compared holder sealed (gate_at gate at).state ≡ true
      → ArePlacesIn gate compared holder sealed from (at + 1) (places ++ at ∷ [])
  gathered_more here = record {
    each = λ w has. by_place w (Contains-push_cases places at w has);
    all = places_more (λ w. is_in compared holder sealed (gate_at gate w).state ≡ true → Contains (places ++ at ∷ []) w) from at
        (λ w inside is. Contains-append_left places (at ∷ []) w (are.all w inside is))
        (λ is. Contains-push places at);
  }
    where
      by_place : (w : ℕ) → Contains places w ⊎ (at ≡ w) → IsFrom from (at + 1) w
      by_place w (inl has) = let inside = are.each w has in record { low = inside.low; high = omega (arith, inside.high) }
      by_place w (inr same) = record { low = omega (arith, low, same); high = omega (arith, same) }

  pub gathered_skip : is_in compared holder sealed (gate_at gate at).state ≡ false → ArePlacesIn gate compared holder sealed from (at + 1) places
  gathered_skip out = record {
    each = λ w has. let inside = are.each w has in record { low = inside.low; high = omega (arith, inside.high) };
    all = places_more (λ w. is_in compared holder sealed (gate_at gate w).state ≡ true → Contains places w) from at are.all
        (λ is. absurd (true≢false (sym is ∙ out)));
  }

-- all places up to the end of a block are those of the block
pub places_at_end : (gate : Gate) (node : NodeId) (compared : Option AttrId) (holder : ℕ) (sealed : Bool) (block at : ℕ) (places : List ℕ)
    → block ≡ node.0 → at ≡ start_of gate.starts.now (node.0 + 1)
    → ArePlacesIn gate compared holder sealed (start_of gate.starts.now block) at places → ArePlacesOf gate node compared holder sealed places
places_at_end gate node compared holder sealed block at places same end are =
    subst (λ from. ArePlacesIn gate compared holder sealed from (start_of gate.starts.now (node.0 + 1)) places)
    (ap (start_of gate.starts.now) same)
    (subst (λ to. ArePlacesIn gate compared holder sealed (start_of gate.starts.now block) to places) end are)

-- where a class has no place on the left, nothing of it is to be listed; and its places make pairs of the node
module _ (gate : Gate) (left right : NodeId) (same : kind_at (gate_setting gate) gate.node.0 ≡ kind.Two left right) (holder : ℕ) (sealed : Bool)
    (lefts : List ℕ)
    (are : ArePlacesOf gate left (compared_left (op_at (gate_setting gate) gate.node.0)) holder sealed lefts) where
  pub class_none : length lefts ≡ 0 → (cells : List (State × Cell)) → IsClassListed gate left right holder sealed cells
  class_none none cells = λ v w at at_too is is_too. let has = are.all v at is in absurd (omega (arith, has.1, none))

  pub class_pairs : (rights : List ℕ) → ArePlacesOf gate right (compared_right (op_at (gate_setting gate) gate.node.0)) holder sealed rights
      → ArePairsOf gate lefts rights
  class_pairs rights are_too = λ v w has has_too. record {
    left = left;
    right = right;
    kind = same;
    left_place = are.each v has;
    right_place = are_too.each w has_too;
  }

-- what is listed of a class, or of a holder, is so later
pub class_still : (gate : Gate) (room : ℕ) (old new : Sheet) → StaysOpen gate room old new → (left right : NodeId) (holder : ℕ) (sealed : Bool)
    → IsClassListed gate left right holder sealed old.cells → IsClassListed gate left right holder sealed new.cells
class_still gate room old new later left right holder sealed listed =
    λ v w at at_too is is_too. pair_still gate room old new later v w (listed v w at at_too is is_too)

pub holder_still : (gate : Gate) (room : ℕ) (old new : Sheet) → StaysOpen gate room old new → (left right : NodeId) (holder : ℕ)
    → IsHolderListed gate left right holder old.cells → IsHolderListed gate left right holder new.cells
holder_still gate room old new later left right holder listed = record {
  plain = class_still gate room old new later left right holder false listed.plain;
  sealed = class_still gate room old new later left right holder true listed.sealed;
}

-- a state is in the class of its holder and of whether the compared attribute is encrypted in it
in_own : (compared : Option AttrId) (holder : ℕ) (sealed : Bool) (st : State) → st.holder.0 ≡ holder → is_sealed compared st ≡ sealed
    → is_in compared holder sealed st ≡ true
in_own compared holder sealed st held is =
    ap (λ b. b && is_same sealed (is_sealed compared st)) (eq-eqb st.holder.0 holder held)
    ∙ ap (is_same sealed) is ∙ itself sealed
  where
    itself : (b : Bool) → is_same b b ≡ true
    itself true = refl
    itself false = refl

-- a pair that gains nothing lists all that it gains
pair_nothing : (gate : Gate) (cells : List (State × Cell)) (v w : ℕ) → two_at gate v w ≡ None → IsPairListed gate cells v w
pair_nothing gate cells v w none =
    subst (λ gained. IfSome gained (IsGainListed cells ((gate_at gate v).label + (gate_at gate w).label))) (sym none) tt

-- where the pairs of each holder are listed, a pair of the node is
module _ (gate : Gate) (ready : IsReady (gate_setting gate)) (is : IsGate gate) (left right : NodeId)
    (same : kind_at (gate_setting gate) gate.node.0 ≡ kind.Two left right) (cells : List (State × Cell))
    (listed : (holder : ℕ) → holder < length (gate_setting gate).policy.subjects → IsHolderListed gate left right holder cells)
    (v w : ℕ) (at : IsPlaceOf gate.starts.now left.0 v) (at_too : IsPlaceOf gate.starts.now right.0 w) where
  abbrev first : State
  first = (gate_at gate v).state

  abbrev second : State
  second = (gate_at gate w).state

  abbrev operation : PlanOp
  operation = op_at (gate_setting gate) gate.node.0

  place : IsTwoPlace gate v w
  place =
      two_places gate ready is v w
      (record { left = left; right = right; kind = same; left_place = at; right_place = at_too })

  by_class : first.holder.0 ≡ second.holder.0 → (x y : Bool) → is_sealed (compared_left operation) first ≡ x
      → is_sealed (compared_right operation) second ≡ y → IsPairListed gate cells v w
  by_class one true true is_left is_right =
      (listed first.holder.0 place.known.known).sealed v w at at_too (in_own (compared_left operation) first.holder.0 true first refl is_left)
      (in_own (compared_right operation) first.holder.0 true second (sym one) is_right)
  by_class one false false is_left is_right =
      (listed first.holder.0 place.known.known).plain v w at at_too (in_own (compared_left operation) first.holder.0 false first refl is_left)
      (in_own (compared_right operation) first.holder.0 false second (sym one) is_right)
  by_class one true false is_left is_right =
      pair_nothing gate cells v w
      (sealed_apart (gate_setting gate) ready gate.node place.left place.right first second place.kind place.known place.known_too
      (λ equal. true≢false (sym is_left ∙ equal ∙ is_right)))
  by_class one false true is_left is_right =
      pair_nothing gate cells v w
      (sealed_apart (gate_setting gate) ready gate.node place.left place.right first second place.kind place.known place.known_too
      (λ equal. true≢false (sym is_right ∙ sym equal ∙ is_left)))

  by_holder : (b : Bool) → (first.holder.0 == second.holder.0) ≡ b → IsPairListed gate cells v w
  by_holder true one = by_class (eqb-true first.holder.0 second.holder.0 one) _ _ refl refl
  by_holder false other =
      pair_nothing gate cells v w (holders_apart (gate_setting gate) gate.node first second (eqb-false first.holder.0 second.holder.0 other))

-- and so all are
pub pairs_arrived : (gate : Gate) → IsReady (gate_setting gate) → IsGate gate → (left right : NodeId)
    → kind_at (gate_setting gate) gate.node.0 ≡ kind.Two left right → (cells : List (State × Cell))
    → ((holder : ℕ) → holder < length (gate_setting gate).policy.subjects → IsHolderListed gate left right holder cells)
    → IsArrivedOn gate (kind.Two left right) cells
pairs_arrived gate ready is left right same cells listed = λ v w at at_too.
    by_holder gate ready is left right same cells listed v w at at_too ((gate_at gate v).state.holder.0 == (gate_at gate w).state.holder.0) refl
