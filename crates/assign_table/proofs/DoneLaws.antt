-- A node whose arrivals were settled is done.
use Rattle.std.proofs.Common.{◌≡◌, ℕ, ◌+◌, ◌≤◌, ◌<◌, List, [], ◌∷◌, ◌++◌, length, Option, sym, ◌∙◌, ap, arith}
use Rattle.std.specs.Prelude.{IfSome}
use Rattle.std.proofs.lemmas.List.{get_or_push, length-append}
use Rattle.std.proofs.Math.Path.{subst}
use Rattle.plan_algebra.specs.declared.kind.Kind.{Kind}
use Rattle.plan_algebra.specs.declared.kind.Kind.TheVariants as kind
use Rattle.plan_algebra.specs.Facts.{IsNodeAt}
use Rattle.extended_plan.specs.declared.state.State.{State}
use Rattle.extended_plan.specs.Gains.{Gain, leaf_gain, one_gain, two_gain}
use Rattle.extended_plan.specs.Ready.{IsReady}
use Rattle.extended_plan.specs.Setting.{Setting, kind_at, known_at, op_at}
use Rattle.assign_table.specs.declared.gate.Gate.{Gate}
use Rattle.assign_table.specs.declared.way.Settled.{Settled}
use Rattle.assign_table.specs.inside.Arrivals.{IsArrivedOn, IsCrowdedAt, IsGate, IsOpenAt, gate_base, gate_setting}
use Rattle.assign_table.specs.inside.Blocks.{AreDone, IsArrived, IsAttainedAt, IsBlock, IsFrom, IsGainSettled, IsPlaceOf, IsSettled, IsSettledAt, base_of, start_of}
use Rattle.assign_table.specs.inside.Cells.{IsListedOn}
use Rattle.assign_table.specs.inside.Settling.{AreAttained, IsCrowded, IsDone, IsGainIn, IsGainListed, ShowsCrowdOver}
use Rattle.assign_table.specs.inside.Sheet.{Sheet}
use Rattle.extended_plan.specs.Spans.{first_of}
use Rattle.assign_table.specs.inside.Ways.{settled_at}
use Rattle.extended_plan.specs.States.{IsFirstTooMany}
use Rattle.assign_table.proofs.CountLaws.{too_many}
use Rattle.assign_table.proofs.GrowLaws.{done_more, each_weaker, place_before, place_inside, same_settled, same_start}
use Rattle.extended_plan.proofs.SpanLaws.{first_low}

-- the setting, the arena and the starts at a node, and the block that was settled there
module _ (gate : Gate) (ready : IsReady (gate_setting gate)) (is : IsGate gate) (block : List Settled) where
  abbrev arena : List Settled
  arena = gate.settled.now

  abbrev whole : List Settled
  whole = gate.settled.now ++ block

  abbrev starts : List ℕ
  starts = gate.starts.now

  abbrev later : List ℕ
  later = gate.starts.now ++ length (gate.settled.now ++ block) ∷ []

  abbrev n : ℕ
  n = gate.node.0

  -- the block begins where the arena ended, and ends where it ends now
  begins : start_of later n ≡ length arena
  begins = same_start arena block starts n (length whole) is.done.blocks n (omega arith) ∙ is.done.blocks.end

  ends : start_of later (n + 1) ≡ length whole
  ends = get_or_push starts (length whole) 0 (n + 1) is.done.blocks.each

  from_place : (w : ℕ) → IsPlaceOf later n w → IsFrom (length arena) (length whole) w
  from_place w at = record { low = omega (arith, at.low, begins); high = omega (arith, at.high, ends) }

  settled_here : (st : State) (most : ℕ) → IsSettled whole (length arena) (length whole) st most → IsSettledAt whole later n st most
  settled_here st most there = record {
    place = there.place;
    inside = record { low = omega (arith, there.inside.low, begins); high = omega (arith, there.inside.high, ends) };
    same = there.same;
    enough = there.enough;
  }

  gains_here : (label : ℕ) (gained : Option Gain) → IfSome gained (IsGainIn whole (length arena) (length whole) label)
      → IfSome gained (IsGainSettled whole later n label)
  gains_here label gained there = each_weaker gained _ _ (λ gain at. settled_here gain.state _ at) there

  -- what was listed when all had arrived is settled
  arrives_here : (sheet : Sheet) → ((st : State) (most : ℕ) → IsListedOn sheet.cells st most → IsSettled whole (length arena) (length whole) st most)
      → (label : ℕ) (gained : Option Gain) → IfSome gained (IsGainListed sheet.cells label) → IfSome gained (IsGainSettled whole later n label)
  arrives_here sheet arrived label gained there = each_weaker gained _ _ (λ gain at. settled_here gain.state _ (arrived gain.state _ at)) there

  arrived_here : (sheet : Sheet) (k : Kind) → ((st : State) (most : ℕ) → IsListedOn sheet.cells st most → IsSettled whole (length arena) (length whole) st most)
      → IsNodeAt (known_at (gate_setting gate)) n (op_at (gate_setting gate) n) k → IsArrivedOn gate k sheet.cells
      → IsArrived (gate_setting gate) whole later n k
  arrived_here sheet kind.Leaf arrived node listed = λ t gives.
      each_weaker (leaf_gain (gate_setting gate) t) _ _ (λ st at. settled_here st 0 (arrived st 0 at)) (listed t gives)
  arrived_here sheet (kind.One x) arrived node listed = λ w at.
      let old = place_before arena block starts n (length whole) is.done.blocks x.0 w node.below at in
      subst (λ (e : Settled). IfSome (one_gain (gate_setting gate) gate.node e.state) (IsGainSettled whole later n e.label))
      (sym (same_settled arena block starts n (length whole) is.done.blocks w (place_inside arena block starts n (length whole) is.done.blocks x.0 w node.below old)))
      (arrives_here sheet arrived _ _ (listed w old))
  arrived_here sheet (kind.Two x y) arrived node listed = λ v w at at_too.
      let before : x.0 < n = omega (arith, node.left_below, node.right_below) in
      let old = place_before arena block starts n (length whole) is.done.blocks x.0 v before at in
      let old_too = place_before arena block starts n (length whole) is.done.blocks y.0 w node.right_below at_too in
      subst (λ (e : Settled). IfSome (two_gain (gate_setting gate) gate.node e.state (settled_at whole w).state) (IsGainSettled whole later n (e.label + (settled_at whole w).label)))
      (sym (same_settled arena block starts n (length whole) is.done.blocks v (place_inside arena block starts n (length whole) is.done.blocks x.0 v before old)))
      (subst (λ (f : Settled). IfSome (two_gain (gate_setting gate) gate.node (settled_at arena v).state f.state) (IsGainSettled whole later n ((settled_at arena v).label + f.label)))
      (sym (same_settled arena block starts n (length whole) is.done.blocks w (place_inside arena block starts n (length whole) is.done.blocks y.0 w node.right_below old_too)))
      (arrives_here sheet arrived _ _ (listed v w old old_too)))

  block_here : (room : ℕ) (sheet : Sheet) → IsOpenAt gate room sheet → IsArrivedOn gate (kind_at (gate_setting gate) n) sheet.cells
      → IsDone (gate_setting gate) n room arena sheet whole → IsBlock (gate_setting gate) whole later n
  block_here room sheet opened listed done = record {
    attained = λ w at.
        let first : first_of (gate_setting gate).basis.nodes n ≤ n = first_low (gate_setting gate) ready n is.node in
        subst (λ base. IsAttainedAt (gate_setting gate) whole n base w)
        (sym (same_start arena block starts n (length whole) is.done.blocks (first_of (gate_setting gate).basis.nodes n) first))
        (done.attained (base_of (gate_setting gate) starts n) opened.attained w (from_place w at));
    differ = λ v w at at_too less. done.apart v w (from_place v at) (from_place w at_too) less;
    closed = record {
      enc = λ w a at. gains_here _ _ (done.enc (base_of (gate_setting gate) starts n) opened.attained w a (from_place w at));
      dec = λ w a at. gains_here _ _ (done.dec (base_of (gate_setting gate) starts n) opened.attained w a (from_place w at));
      send = λ w to at. gains_here _ _ (done.send w to (from_place w at));
      arrived = arrived_here sheet (kind_at (gate_setting gate) n) done.arrived (ready.facts.node n is.node) listed;
    };
  }

  -- so its node is done
  pub node_done : (room : ℕ) (sheet : Sheet) → IsOpenAt gate room sheet → IsArrivedOn gate (kind_at (gate_setting gate) n) sheet.cells
      → IsDone (gate_setting gate) n room arena sheet whole → room + length arena ≤ 200000 → length block ≤ room
      → AreDone (gate_setting gate) whole later (n + 1)
  node_done room sheet opened listed done space few =
      done_more (gate_setting gate) ready arena block starts n is.node is.done (omega (arith, space, few, length-append arena block))
      (block_here room sheet opened listed done)

-- the same, of the arena as it was before and as it is then
pub block_done : (gate : Gate) → IsReady (gate_setting gate) → gate.node.0 < length (gate_setting gate).basis.nodes → (room : ℕ)
    (before : List Settled) → gate.settled.now ≡ before → AreDone (gate_setting gate) before gate.starts.now gate.node.0 → room + length before ≡ 200000
    → (sheet : Sheet) (after : List Settled) → IsOpenAt gate room sheet → IsArrivedOn gate (kind_at (gate_setting gate) gate.node.0) sheet.cells
    → IsDone (gate_setting gate) gate.node.0 room before sheet after
    → AreDone (gate_setting gate) after (gate.starts.now ++ length after ∷ []) (gate.node.0 + 1)
block_done gate ready node room before same were space sheet after opened listed done =
    let is : IsGate gate = record {
      node = node;
      done = subst (λ a. AreDone (gate_setting gate) a gate.starts.now gate.node.0) (sym same) were;
    } in
    let settled = subst (λ a. IsDone (gate_setting gate) gate.node.0 room a sheet after) (sym same) done in
    subst (λ a. AreDone (gate_setting gate) a (gate.starts.now ++ length a ∷ []) (gate.node.0 + 1)) (sym settled.grown)
    (node_done gate ready is settled.block room sheet opened listed
    (subst (IsDone (gate_setting gate) gate.node.0 room gate.settled.now sheet) settled.grown settled)
    (omega (arith, space, ap length same)) settled.few)

-- where what arrived shows that too many states are reached at the node, they are
pub crowded_over : (gate : Gate) (room : ℕ) (before : List Settled) (sheet : Sheet) → gate.settled.now ≡ before → IsOpenAt gate room sheet
    → ShowsCrowdOver (gate_setting gate) gate.node.0 room before sheet → IsCrowdedAt gate room
crowded_over gate room before sheet same opened shows =
    shows (gate_base gate)
    (subst (λ a. AreAttained (gate_setting gate) gate.node.0 (gate_base gate) (length a) a sheet) same opened.attained)

-- where too many states are reached at the node for the room that is left, too many are reached there first
pub crowded_first : (s : Setting) → IsReady s → (arena : List Settled) (starts : List ℕ) (n room : ℕ) → AreDone s arena starts n
    → room + length arena ≡ 200000 → IsCrowded s n room → IsFirstTooMany s n
crowded_first s ready arena starts n room done space crowd =
    too_many s ready arena starts n crowd.states done crowd.differ crowd.reached (omega (arith, space, crowd.more))
