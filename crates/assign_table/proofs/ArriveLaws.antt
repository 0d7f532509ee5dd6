-- Arrivals keep a table open: what is offered is attained, and where it is refused too many states are reached.
use Rattle.std.proofs.Common.{◌≡◌, ℕ, ◌+◌, ◌-◌, ◌^◌, ◌≤◌, ◌<◌, ◌⊎◌, inl, inr, true, List, [], length, get_or, slice_get, Option, Some, None, sym, ◌∙◌, ap, subst, arith, min}
use Rattle.std.specs.Prelude.{IfSome, option_map}
use Rattle.std.specs.List.{Contains}
use Rattle.std.proofs.lemmas.Bool.{eqb-true}
use Rattle.std.proofs.lemmas.List.Quantifiers.{position-Some}
use Rattle.std.proofs.lemmas.List.{get_or_default}
use Rattle.std.proofs.lemmas.Option.{slice_get-get_or}
use Rattle.mq_base.specs.declared.ids.NodeId.{NodeId}
use Rattle.mq_base.specs.declared.ids.TableId.{TableId}
use Rattle.mq_base.specs.declared.plan.PlanNode.{PlanNode}
use Rattle.mq_base.specs.declared.plan.PlanOp.TheVariants as op
use Rattle.mq_base.specs.declared.plan.Step.TheVariants as step
use Rattle.mq_base.specs.declared.attr_set.AttrSet.{AttrSet}
use Rattle.cost_model.specs.Costs.{cut}
use Rattle.plan_algebra.specs.declared.kind.Kind.TheVariants as kind
use Rattle.plan_algebra.specs.Nodes.{leaf_node}
use Rattle.extended_plan.specs.declared.state.State.{State}
use Rattle.extended_plan.specs.Gains.{Gain, leaf_gain}
use Rattle.relation_profile.specs.Profile.{Profile}
use Rattle.extended_plan.specs.Job.{AreOperands, IsHeldAt, IsOperand, IsStateAt, told}
use Rattle.extended_plan.specs.Ready.{IfBase, IsLeafOf, IsReady}
use Rattle.extended_plan.specs.Setting.{Setting, is_base, kind_at, leaf_of, op_at}
use Rattle.extended_plan.specs.Term.{holder}
use Rattle.extended_plan.specs.Validity.{may_hold}
use Rattle.extended_plan.proofs.ListLaws.{own_held}
use Rattle.extended_plan.proofs.PlaceLaws.{one_known, two_known}
use Rattle.extended_plan.proofs.ViewLaws.{seen}
use Rattle.assign_table.specs.declared.gate.Gate.{Gate}
use Rattle.assign_table.specs.declared.cell.Cell.{Cell}
use Rattle.assign_table.specs.declared.way.Settled.{Settled}
use Rattle.assign_table.specs.declared.way.Way.{Way}
use Rattle.assign_table.specs.declared.way.Way.TheVariants as way
use Rattle.assign_table.specs.inside.Arrivals.{IsArrival, IsArrivedOn, IsCrowdedAt, IsGate, IsOneListed, IsOpenAt, IsPairListed, IsPairOf, StaysOpen, gate_at, gate_base, gate_setting, one_at, two_at}
use Rattle.assign_table.specs.inside.Blocks.{IsAttainedAt, IsFrom, IsPlaceOf, base_of, start_of}
use Rattle.assign_table.specs.inside.Cells.{IsListedOn}
use Rattle.assign_table.specs.inside.Settling.{IsGainListed}
use Rattle.assign_table.specs.inside.Sheet.{IsOffered, IsRefused, Sheet}
use Rattle.extended_plan.specs.Spans.{IsSpan, first_of}
use Rattle.assign_table.specs.inside.Ways.{IsAttained, settled_at}
use Rattle.assign_table.proofs.ArenaLaws.{below-or-last}
use Rattle.assign_table.proofs.GainLaws.{IsTold, told-gain}
use Rattle.assign_table.proofs.OrderLaws.{offered-lower}
use Rattle.assign_table.proofs.PlaceLaws.{starts_low}
use Rattle.assign_table.proofs.SettleLaws.{cut-both, gathered-offered, gathered-refused}
use Rattle.extended_plan.proofs.SpanLaws.{first_low, span_at}
use Rattle.assign_table.proofs.WayLaws.{bin_attained, leaf_attained, un_attained}

-- a state that is attained at a node is one of the node, and its holder may hold the table
pub attained_held : (s : Setting) → IsReady s → (arena : List Settled) (n base top : ℕ) (st : State) (label : ℕ) (way : Way)
    → IsAttained s arena n base top st label way → IsHeldAt s n st
attained_held s ready arena n base top st label way is =
    let at = seen s ready n is.term is.stands.gives is.stands.runs in
    subst (IsHeldAt s n) is.arrives (record {
      at = record { known = at.known; view = at.view };
      held = subst (λ (p : Profile). may_hold s (holder s is.term) p ≡ true) (sym at.shows) (own_held s is.term is.stands.held);
    })

pub attained_known : (s : Setting) → IsReady s → (arena : List Settled) (n base top : ℕ) (st : State) (label : ℕ) (way : Way)
    → IsAttained s arena n base top st label way → IsStateAt s n st
attained_known s ready arena n base top st label way is = (attained_held s ready arena n base top st label way is).at

-- one thing was offered after the other
pub open_then : (gate : Gate) (room : ℕ) (old mid new : Sheet) → StaysOpen gate room old mid → StaysOpen gate room mid new
    → StaysOpen gate room old new
open_then gate room old mid new first second =
    record { opened = second.opened; lower = λ st most listed. second.lower st most (first.lower st most listed) }

-- a state that arrives was offered
pub arrival_open : (gate : Gate) → IsReady (gate_setting gate) → (room : ℕ) (old new : Sheet) (st : State) (label : ℕ) (way : Way)
    → IsOpenAt gate room old → IsArrival gate st label way → IsOffered old st label way new → (length old.cells ≤ room → length new.cells ≤ room)
    → StaysOpen gate room old new
arrival_open gate ready room old new st label way gathered here offered within = record {
  opened =
      gathered-offered (gate_setting gate) gate.node.0 (gate_base gate) room gate.settled.now old new st label way gathered offered here
      (attained_held (gate_setting gate) ready gate.settled.now gate.node.0 (gate_base gate) (length gate.settled.now + 1) st label way here.attained) within;
  lower = offered-lower old new st label way offered;
}

-- or was refused
pub arrival_crowded : (gate : Gate) (room : ℕ) (old : Sheet) (st : State) (label : ℕ) (way : Way) → IsOpenAt gate room old
    → IsArrival gate st label way → IsRefused room old st → IsCrowdedAt gate room
arrival_crowded gate room old st label way gathered here refused =
    gathered-refused (gate_setting gate) gate.node.0 (gate_base gate) room gate.settled.now old st label way gathered refused here

-- what is listed of a gain is so later
gain_still : (gate : Gate) (room : ℕ) (old new : Sheet) → StaysOpen gate room old new → (gained : Option Gain) (sum : ℕ)
    → IfSome gained (IsGainListed old.cells sum) → IfSome gained (IsGainListed new.cells sum)
gain_still gate room old new later None sum listed = tt
gain_still gate room old new later (Some gain) sum listed = later.lower gain.state (cut (sum + gain.cost)) listed

pub one_still : (gate : Gate) (room : ℕ) (old new : Sheet) → StaysOpen gate room old new → (w : ℕ) → IsOneListed gate old.cells w
    → IsOneListed gate new.cells w
one_still gate room old new later w listed = gain_still gate room old new later (one_at gate w) (gate_at gate w).label listed

pub pair_still : (gate : Gate) (room : ℕ) (old new : Sheet) → StaysOpen gate room old new → (v w : ℕ) → IsPairListed gate old.cells v w
    → IsPairListed gate new.cells v w
pair_still gate room old new later v w listed =
    gain_still gate room old new later (two_at gate v w) ((gate_at gate v).label + (gate_at gate w).label) listed

-- the gains of a gate arrive by this way
abbrev pub IsWayTo : Gate → Option Gain → ℕ → Way → Type 0
IsWayTo gate gained sum way = (gain : Gain) → gained ≡ Some gain → IsArrival gate gain.state (cut (sum + gain.cost)) way

-- a call told the state and the cost of a gain, and a label adds this cost to a sum
module _ (found : Option Gain) (st : State) (cost sum label : ℕ) (answers : Some (st, cost) ≡ option_map told found)
    (adds : label ≡ cut (sum + cost)) where
  gain_told : IsTold found st cost
  gain_told = told-gain found (st, cost) answers

  label_told : label ≡ cut (sum + gain_told.gain.cost)
  label_told = adds ∙ ap (λ k. cut (sum + k)) (sym gain_told.cost) ∙ cut-both sum gain_told.gain.cost (2 ^ 128 - 1)

  -- so it arrives by the way of the gain
  pub told_arrives : (gate : Gate) (way : Way) → IsWayTo gate found sum way → IsArrival gate st label way
  told_arrives gate way leads =
      subst (λ (t : State). IsArrival gate t label way) gain_told.state
      (subst (λ l. IsArrival gate gain_told.gain.state l way) (sym label_told) (leads gain_told.gain gain_told.is))

-- a label that is summed up in two turns
pub cut_twice : (left right cost : ℕ) → cut (cut (left + right) + cost) ≡ cut ((left + right) + cost)
cut_twice left right cost = cuts (left + right) cost (2 ^ 128 - 1)
  where
    cuts : (sum cost most : ℕ) → min (min sum most + cost) most ≡ min (sum + cost) most
    cuts sum cost most = omega arith

-- blocks of nodes up to the gate's begin within the arena, and each ends no earlier than it begins
pub start_low : (gate : Gate) → IsGate gate → (m : ℕ) → m ≤ gate.node.0 → start_of gate.starts.now m ≤ length gate.settled.now
start_low gate is m low = starts_low gate.settled.now gate.starts.now gate.node.0 is.done.blocks m low

pub start_rise : (gate : Gate) → IsGate gate → (m : ℕ) → m < gate.node.0 → start_of gate.starts.now m ≤ start_of gate.starts.now (m + 1)
start_rise gate is m before = is.done.blocks.rise m before

-- and so do those of a node's subtree
base_low : (gate : Gate) → IsReady (gate_setting gate) → IsGate gate → gate_base gate ≤ length gate.settled.now
base_low gate ready is =
    start_low gate is (first_of (gate_setting gate).basis.nodes gate.node.0) (first_low (gate_setting gate) ready gate.node.0 is.node)

-- what stands at a place of a block before the gate's
place_low : (gate : Gate) → IsGate gate → (m w : ℕ) → m < gate.node.0 → IsPlaceOf gate.starts.now m w → w < length gate.settled.now
place_low gate is m w before at =
    omega (arith, at.high, start_low gate is (m + 1) (omega (arith, before)))

there : (gate : Gate) (w : ℕ) → w < length gate.settled.now → slice_get gate.settled.now w ≡ Some (gate_at gate w)
there gate w below = slice_get-get_or gate.settled.now w (settled_at [] 0) below

-- the leaf of a table arrives at its node
pub leaf_is : (s : Setting) → IsReady s → (n : ℕ) → n < length s.basis.nodes → (t : TableId) (used : AttrSet) → op_at s n ≡ op.Base t used
    → leaf_of s t ≡ Some n
leaf_is s ready n below t used is = (subst (λ o. IfBase o (IsLeafOf s n)) is (ready.leaves n below)).only

pub leaf_arrives : (gate : Gate) → IsReady (gate_setting gate) → IsGate gate → (t : TableId) (st : State)
    → leaf_of (gate_setting gate) t ≡ Some gate.node.0 → leaf_gain (gate_setting gate) t ≡ Some st → IsArrival gate st 0 (way.Leaf t)
leaf_arrives gate ready is t st gives gains = record {
  attained = leaf_attained (gate_setting gate) ready gate.settled.now gate.node.0 (gate_base gate) t st gives gains (base_low gate ready is);
  traced = tt;
}

-- and no other one does
leaf_same : (s : Setting) (n : ℕ) (t u : TableId) (used : AttrSet) → op_at s n ≡ op.Base t used → leaf_of s u ≡ Some n → t ≡ u
leaf_same s n t u used is gives =
    let found = position-Some (λ (node : PlanNode). is_base u node.op) s.basis.nodes n (leaf_node (record { 0 = 0 }) (record { 0 = 0 })) gives in
    let same : t.0 ≡ u.0 = eqb-true t.0 u.0 (subst (λ o. is_base u o ≡ true) is found.1) in
    ap (λ i. record { 0 = i }) same

pub leaf_listed : (gate : Gate) (t : TableId) (used : AttrSet) (cells : List (State × Cell))
    → op_at (gate_setting gate) gate.node.0 ≡ op.Base t used → IfSome (leaf_gain (gate_setting gate) t) (λ st. IsListedOn cells st 0)
    → IsArrivedOn gate kind.Leaf cells
leaf_listed gate t used cells is listed = λ u gives.
    subst (λ (v : TableId). IfSome (leaf_gain (gate_setting gate) v) (λ st. IsListedOn cells st 0))
    (leaf_same (gate_setting gate) gate.node.0 t u used is gives) listed

-- what a node of one operand needs to know of a place of the operand's block
pub record IsOnePlace (gate : Gate) (w : ℕ) : Type 0 where
  pub low : w < length gate.settled.now
  pub operand : IsOperand (gate_setting gate) (kind_at (gate_setting gate) gate.node.0) (gate_at gate w).state
  pub leads : IsWayTo gate (one_at gate w) (gate_at gate w).label (way.One (step.Un gate.node) w)

pub one_place : (gate : Gate) → IsReady (gate_setting gate) → IsGate gate → (c : NodeId) (w : ℕ)
    → kind_at (gate_setting gate) gate.node.0 ≡ kind.One c → IsPlaceOf gate.starts.now c.0 w → IsOnePlace gate w
one_place gate ready is c w same at =
    let s : Setting = gate_setting gate in
    let before : c.0 < gate.node.0 = (one_known s ready gate.node.0 c same).below in
    let low : w < length gate.settled.now = place_low gate is c.0 w before at in
    let from : IsAttainedAt s gate.settled.now c.0 (base_of s gate.starts.now c.0) w = (is.done.block c.0 before).attained w at in
    let span = subst (IsSpan (first_of s.basis.nodes) gate.node.0) same (span_at s ready gate.node.0 is.node) in
    let base : base_of s gate.starts.now c.0 ≡ gate_base gate = ap (start_of gate.starts.now) (sym span.1) in
    record {
      low = low;
      operand =
          subst (λ k. IsOperand s k (gate_at gate w).state) (sym same)
          (attained_known s ready gate.settled.now c.0 (base_of s gate.starts.now c.0) (w + 1) _ _ _ from);
      leads = λ gain gains.
          record {
            attained = un_attained s ready gate.settled.now gate.node c (gate_base gate) w (gate_at gate w) gain same (there gate w low)
                (subst (λ b. IsAttainedAt s gate.settled.now c.0 b w) base from) gains;
            traced = tt;
          };
    }

-- and a node of two
pub record IsTwoPlace (gate : Gate) (v w : ℕ) : Type 0 where
  pub left : NodeId
  pub right : NodeId
  pub kind : kind_at (gate_setting gate) gate.node.0 ≡ kind.Two left right
  pub low : v < length gate.settled.now
  pub low_too : w < length gate.settled.now
  pub known : IsStateAt (gate_setting gate) left.0 (gate_at gate v).state
  pub known_too : IsStateAt (gate_setting gate) right.0 (gate_at gate w).state
  pub leads : IsWayTo gate (two_at gate v w) ((gate_at gate v).label + (gate_at gate w).label) (way.Two gate.node v w)

pub two_places : (gate : Gate) → IsReady (gate_setting gate) → IsGate gate → (v w : ℕ) → IsPairOf gate v w → IsTwoPlace gate v w
two_places gate ready is v w pair =
    let s : Setting = gate_setting gate in
    let c : NodeId = pair.left in
    let d : NodeId = pair.right in
    let known = two_known s ready gate.node.0 c d pair.kind in
    let before : c.0 < gate.node.0 = omega (arith, known.left_below, known.right_below) in
    let low : v < length gate.settled.now = place_low gate is c.0 v before pair.left_place in
    let low_too : w < length gate.settled.now = place_low gate is d.0 w known.right_below pair.right_place in
    let from : IsAttainedAt s gate.settled.now c.0 (base_of s gate.starts.now c.0) v = (is.done.block c.0 before).attained v pair.left_place in
    let from_too : IsAttainedAt s gate.settled.now d.0 (base_of s gate.starts.now d.0) w =
    (is.done.block d.0 known.right_below).attained w pair.right_place in
    let span = subst (IsSpan (first_of s.basis.nodes) gate.node.0) pair.kind (span_at s ready gate.node.0 is.node) in
    let base : base_of s gate.starts.now c.0 ≡ gate_base gate = ap (start_of gate.starts.now) (sym span.3) in
    let middle : v < base_of s gate.starts.now d.0 = subst (λ i. v < start_of gate.starts.now i) (sym span.2) pair.left_place.high in
    record {
      left = c;
      right = d;
      kind = pair.kind;
      low = low;
      low_too = low_too;
      known = attained_known s ready gate.settled.now c.0 (base_of s gate.starts.now c.0) (v + 1) _ _ _ from;
      known_too = attained_known s ready gate.settled.now d.0 (base_of s gate.starts.now d.0) (w + 1) _ _ _ from_too;
      leads = λ gain gains.
          record {
            attained = bin_attained s ready gate.settled.now gate.node c d (gate_base gate) (base_of s gate.starts.now d.0) v w (gate_at gate v)
                (gate_at gate w) gain pair.kind (there gate v low) (there gate w low_too) middle
                (subst (λ b. IsAttainedAt s gate.settled.now c.0 b v) base from) from_too gains;
            traced = tt;
          };
    }

pub two_operands : (gate : Gate) (v w : ℕ) → IsTwoPlace gate v w
    → AreOperands (gate_setting gate) (kind_at (gate_setting gate) gate.node.0) (gate_at gate v).state (gate_at gate w).state
two_operands gate v w at =
    subst (λ k. AreOperands (gate_setting gate) k (gate_at gate v).state (gate_at gate w).state) (sym at.kind) (at.known, at.known_too)

-- what holds at each place so far, and at the next, holds at each place up to the one after it
pub places_more : (P : ℕ → Type 0) (from at : ℕ) → ((w : ℕ) → IsFrom from at w → P w) → P at → (w : ℕ) → IsFrom from (at + 1) w → P w
places_more P from at each here w inside = by_place (below-or-last w at inside.high)
  where
    by_place : (w < at) ⊎ (w ≡ at) → P w
    by_place (inl before) = each w (record { low = inside.low; high = before })
    by_place (inr last) = subst P (sym last) here

-- a number is one of the first of a list; one of all is in it
pub record IsAmong (xs : List ℕ) (most x : ℕ) : Type 0 where
  pub index : ℕ
  pub below : index < most
  pub inside : index < length xs
  pub is : get_or xs index 0 ≡ x

pub among_all : (P : ℕ → Type 0) (xs : List ℕ) (most : ℕ) → length xs ≤ most → ((x : ℕ) → IsAmong xs most x → P x) → (x : ℕ) → Contains xs x → P x
among_all P xs most end each x has =
    each x (record { index = has.0; below = omega (arith, end, has.1); inside = has.1; is = get_or_default xs has.0 0 x has.1 ∙ has.2 })

pub among_more : (P : ℕ → Type 0) (xs : List ℕ) (most : ℕ) → ((x : ℕ) → IsAmong xs most x → P x) → P (get_or xs most 0)
    → (x : ℕ) → IsAmong xs (most + 1) x → P x
among_more P xs most each here x among = by_place (below-or-last among.index most among.below)
  where
    by_place : (among.index < most) ⊎ (among.index ≡ most) → P x
    by_place (inl before) = each x (record { index = among.index; below = before; inside = among.inside; is = among.is })
    by_place (inr last) = subst P (ap (λ i. get_or xs i 0) (sym last) ∙ among.is) here

pub among_here : (xs : List ℕ) (at : ℕ) → at < length xs → Contains xs (get_or xs at 0)
among_here xs at inside = (at, inside, get_or_default xs at (get_or xs at 0) 0 inside)
