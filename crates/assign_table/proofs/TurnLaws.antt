-- What a turn keeps, how many turns there are, and what stands in the arena when nothing waits any more.
use Rattle.std.proofs.Common.{◌≡◌, ℕ, ◌+◌, ◌-◌, ◌^◌, ◌≤◌, ◌<◌, min, ◌⊎◌, inl, inr, Bool, true, false, List, [], ◌∷◌, ◌++◌, length, drop, get_or, Option, Some, None, slice_get, is_some, refl, sym, ◌∙◌, ap, subst, true≢false, arith, append_assoc, length-append}
use Rattle.std.specs.Prelude.{IfSome}
use Rattle.std.specs.List.{IsDistinct}
use Rattle.std.specs.Map.{keys_of}
use Rattle.std.specs.Set.{is_member}
use Rattle.std.proofs.lemmas.List.{append-nil, get_or-drop, get_or-map, length-drop, length-map, length_push}
use Rattle.std.proofs.lemmas.Map.Entries.{length-keys_of}
use Rattle.std.proofs.lemmas.Map.Made.{is_some-lookup, length-le_from_is_member}
use Rattle.std.proofs.lemmas.Option.{get_or_from_slice_get, slice_get-get_or, slice_get_within}
use Rattle.std.proofs.lemmas.Map.Keys.{apart_from_distinct}
use Rattle.mq_base.specs.declared.ids.AttrId.{AttrId}
use Rattle.cost_model.specs.Costs.{cut}
use Rattle.extended_plan.proofs.EntryLaws.{same_state}
use Rattle.extended_plan.specs.declared.state.State.{State}
use Rattle.extended_plan.specs.Gains.{Gain, across, dec_gain, enc_gain, send_gain}
use Rattle.extended_plan.specs.Job.{IsHeldAt}
use Rattle.extended_plan.specs.Setting.{Setting}
use Rattle.extended_plan.specs.States.{cost, state_eq}
use Rattle.assign_table.specs.declared.cell.Cell.{Cell}
use Rattle.assign_table.specs.declared.way.Settled.{Settled}
use Rattle.assign_table.specs.inside.Cells.{IsListedOn, cell_of}
use Rattle.assign_table.specs.inside.Blocks.{AreApart, IsFrom, IsSettled}
use Rattle.assign_table.specs.inside.Order.{IsAtRest, IsOrdered, IsSettledFrom, states_of}
use Rattle.assign_table.specs.inside.Settling.{AreAttained, AreKnown, Continues, IsClosedOn, IsDone, IsGainIn, IsGainListed, IsLast, IsTurn, IsTurned, IsUnderway, ShowsCrowd, ShowsCrowdFrom, ShowsCrowdOver}
use Rattle.assign_table.specs.inside.Sheet.{IsDrained, IsTaken, Sheet}
use Rattle.assign_table.specs.inside.Crossing.{IsMet, crossed_label}
use Rattle.assign_table.specs.inside.Ways.{settled_at}
use Rattle.assign_table.proofs.ArenaLaws.{IsNewAt, block-none, push-cases, push-last}
use Rattle.assign_table.proofs.OrderLaws.{ordered-taken}
use Rattle.assign_table.proofs.SheetLaws.{cell_with, settled_with}
use Rattle.assign_table.proofs.StateLaws.{state_eq-equivalence}
use Rattle.assign_table.proofs.CrossLaws.{IsAcross, crossing-in, dec-across, each_crossed, enc-across}
use Rattle.assign_table.proofs.WayLaws.{met_grown}

-- what was attained is, when the least that waits is settled
pub attained-taken : (s : Setting) (n base from : ℕ) (arena : List Settled) (old : Sheet) (e : Settled) (new : Sheet) → IsTaken old e new
    → AreAttained s n base from arena old → AreAttained s n base from (arena ++ e ∷ []) new
attained-taken s n base from arena old e new taken attained = record {
  cells = λ st cell found.
      met_grown s arena (e ∷ []) n base from (length arena) (length (arena ++ e ∷ [])) st cell.label cell.way
      (let longer : length (arena ++ e ∷ []) ≡ length arena + 1 = length_push arena e in omega arith) (omega arith)
      (attained.cells st cell (sym (ap (λ cells. cell_of cells st) taken.cells) ∙ found));
  block = λ place f after there. block place f after (push-cases arena e place f there);
  distinct = subst (λ cells. IsDistinct state_eq (keys_of cells)) (sym taken.cells) attained.distinct;
}
  where
    block : (place : ℕ) (f : Settled) → from ≤ place → (slice_get arena place ≡ Some f) ⊎ IsNewAt arena e place f
        → IsMet s (arena ++ e ∷ []) n base from place f.state f.label f.way
    block place f after (inl there) =
        let within : place < length arena = slice_get_within arena place f there in
        met_grown s arena (e ∷ []) n base from place place f.state f.label f.way (omega arith) (omega arith) (attained.block place f after there)
    block place f after (inr new_one) =
        let last : place ≡ length arena = new_one.last in
        subst (λ (g : Settled). IsMet s (arena ++ e ∷ []) n base from place g.state g.label g.way) (sym new_one.new)
        (met_grown s arena (e ∷ []) n base from (length arena) place e.state e.label e.way (omega arith) (omega arith)
        (attained.cells e.state (cell_with e.label e.way) taken.listed))

-- what is listed is, when the least that waits is taken
listed-taken : (old : Sheet) (e : Settled) (new : Sheet) → IsTaken old e new → (st : State) (most : ℕ) → IsListedOn old.cells st most
    → IsListedOn new.cells st most
listed-taken old e new taken st most listed = subst (λ cells. IsListedOn cells st most) (sym taken.cells) listed

-- what was pushed is last
pushed-last : (arena : List Settled) (e : Settled) (at : ℕ) → at ≡ length arena → IsLast (arena ++ e ∷ []) at e
pushed-last arena e at same = record {
  there = ap (slice_get (arena ++ e ∷ [])) same ∙ push-last arena e;
  last = let longer : length (arena ++ e ∷ []) ≡ length arena + 1 = length_push arena e in omega arith;
}

-- a turn: the least that waits is taken and pushed, and all that it gains is offered
pub turned : (s : Setting) (n room at : ℕ) (arena longer : List Settled) (old mid new : Sheet) (e : Settled) → at ≡ length arena
    → IsTaken old e mid → longer ≡ arena ++ e ∷ [] → Continues s n room at e mid new → IsClosedOn s n new.cells e
    → IsTurned s n room arena old longer new
turned s n room at arena longer old mid new e same taken pushed continues closed = record {
  settled = e;
  pushed = pushed;
  ordered = λ from front ordered.
      subst (λ longer. IsOrdered from longer new e.label) (sym pushed)
      (continues.ordered from (arena ++ e ∷ []) (ordered-taken from arena old mid front ordered e taken));
  attained = λ base from start attained.
      subst (λ longer. AreAttained s n base from longer new) (sym pushed)
      (continues.attained base from (arena ++ e ∷ []) (pushed-last arena e at same) (omega arith)
      (attained-taken s n base from arena old e mid taken attained));
  known = λ known. continues.known (λ st cell found. known st cell (sym (ap (λ cells. cell_of cells st) taken.cells) ∙ found));
  lower = λ st most listed. continues.lower st most (listed-taken old e mid taken st most listed);
  within = λ within. continues.within (subst (λ cells. length cells ≤ room) (sym taken.cells) within);
  closed = closed;
}

-- and where a gain is refused, too many states are reached
pub crowd-turned : (s : Setting) (n room at : ℕ) (arena : List Settled) (old mid : Sheet) (e : Settled) → at ≡ length arena
    → IsTaken old e mid → ShowsCrowd s n room at e mid → ShowsCrowdFrom s n room arena old
crowd-turned s n room at arena old mid e same taken shows =
    λ base from start attained.
    shows base from (arena ++ e ∷ []) (pushed-last arena e at same) (omega arith)
    (attained-taken s n base from arena old e mid taken attained)

-- what is closed is, as long as what is listed is
closed-later : (s : Setting) (n : ℕ) (old new : List (State × Cell)) (e : Settled)
    → ((other : State) (most : ℕ) → IsListedOn old other most → IsListedOn new other most)
    → IsClosedOn s n old e → IsClosedOn s n new e
closed-later s n old new e lower closed = record {
  tried = λ a crosses before. lower (across a e.state) (crossed_label s n a e) (closed.tried a crosses before);
  send = λ to. later (send_gain s n to e.state) (closed.send to);
}
  where
    later : (gain : Option Gain) → IfSome gain (IsGainListed old e.label) → IfSome gain (IsGainListed new e.label)
    later None listed = tt
    later (Some gain) listed = lower gain.state (cut (e.label + gain.cost)) listed

-- at most as many states are settled as there are cells
pub block-few : (from : ℕ) (arena : List Settled) (sheet : Sheet) (front : ℕ) → IsOrdered from arena sheet front
    → length arena ≤ from + length sheet.cells
block-few from arena sheet front ordered =
    let states : length (states_of (drop from arena)) ≡ length arena - from =
    length-map (drop from arena) (λ (e : Settled). e.state) ∙ length-drop from arena in
    let keys : length (keys_of sheet.cells) ≡ length sheet.cells = length-keys_of sheet.cells in
    let few : length (states_of (drop from arena)) ≤ length (keys_of sheet.cells) =
    length-le_from_is_member state_eq-equivalence (states_of (drop from arena)) (keys_of sheet.cells) ordered.differ member in
    omega arith
  where
    member : (q : State) → is_member state_eq (states_of (drop from arena)) q ≡ true → is_member state_eq (keys_of sheet.cells) q ≡ true
    member q there = by_test (is_member state_eq (keys_of sheet.cells) q) refl
      where
        apart : is_member state_eq (keys_of sheet.cells) q ≡ false → (place : ℕ) (e : Settled) → from ≤ place → slice_get arena place ≡ Some e
            → state_eq q e.state ≡ false
        apart absent place e after at_place = by_state (state_eq q e.state) refl
          where
            by_state : (b : Bool) → state_eq q e.state ≡ b → state_eq q e.state ≡ false
            by_state true is =
                let rest : IsAtRest sheet front e = ordered.rests place e after at_place in
                let same : q ≡ e.state = same_state q e.state is in
                let found : is_some (cell_of sheet.cells q) ≡ true = ap is_some (ap (cell_of sheet.cells) same ∙ rest.listed) in
                absurd (true≢false (sym found ∙ is_some-lookup (state_eq q) sheet.cells ∙ absent))
            by_state false is = is

        by_test : (b : Bool) → is_member state_eq (keys_of sheet.cells) q ≡ b → is_member state_eq (keys_of sheet.cells) q ≡ true
        by_test true is = is
        by_test false is = absurd (true≢false (sym there ∙ block-none (state_eq q) from arena (apart is)))

-- at the start there was no turn
pub underway-start : (s : Setting) (n room : ℕ) (before : List Settled) (start : Sheet) → IsOrdered (length before) before start 0
    → AreKnown s n start → length start.cells ≤ room → IsUnderway s n room before start before start
underway-start s n room before start ordered known within = record {
  block = [];
  grown = sym (append-nil before);
  front = 0;
  ordered = ordered;
  attained = λ base attained. attained;
  known = known;
  lower = λ st most listed. listed;
  within = within;
  closed = λ place e after there.
      let inside : place < length before = slice_get_within before place e there in absurd (omega arith);
}

-- and then one more
pub underway-more : (s : Setting) (n room : ℕ) (before : List Settled) (start : Sheet) (arena : List Settled) (old : Sheet)
    (longer : List Settled) (new : Sheet) → IsUnderway s n room before start arena old → IsTurned s n room arena old longer new
    → IsUnderway s n room before start longer new
underway-more s n room before start arena old longer new underway turn = record {
  block = underway.block ++ turn.settled ∷ [];
  grown =
      let whole : (before ++ underway.block) ++ turn.settled ∷ [] ≡ before ++ (underway.block ++ turn.settled ∷ []) = rw append_assoc in
      turn.pushed ∙ ap (λ (settled : List Settled). settled ++ turn.settled ∷ []) underway.grown ∙ whole;
  front = turn.settled.label;
  ordered = turn.ordered (length before) underway.front underway.ordered;
  attained = λ base attained. turn.attained base (length before) underway.ordered.start (underway.attained base attained);
  known = turn.known underway.known;
  lower = λ st most listed. turn.lower st most (underway.lower st most listed);
  within = turn.within underway.within;
  closed = λ place e after there.
      closed place e after (push-cases arena turn.settled place e (subst (λ longer. slice_get longer place ≡ Some e) turn.pushed there));
}
  where
    closed : (place : ℕ) (e : Settled) → length before ≤ place → (slice_get arena place ≡ Some e) ⊎ IsNewAt arena turn.settled place e
        → IsClosedOn s n new.cells e
    closed place e after (inl there) = closed-later s n old.cells new.cells e turn.lower (underway.closed place e after there)
    closed place e after (inr last) = subst (IsClosedOn s n new.cells) (sym last.new) turn.closed

-- no more states are settled than there is room for
pub underway-few : (s : Setting) (n room : ℕ) (before : List Settled) (start : Sheet) (arena : List Settled) (sheet : Sheet)
    → IsUnderway s n room before start arena sheet → length arena ≤ length before + room
underway-few s n room before start arena sheet underway =
    let few : length arena ≤ length before + length sheet.cells = block-few (length before) arena sheet underway.front underway.ordered in
    let within : length sheet.cells ≤ room = underway.within in
    omega arith

-- each turn settles one more, of at most so many
pub underway-smaller : (s : Setting) (n room : ℕ) (before : List Settled) (start : Sheet) (arena : List Settled) (old : Sheet)
    (longer : List Settled) (new : Sheet) → IsUnderway s n room before start arena old → IsTurned s n room arena old longer new
    → (length before + room) + 1 - length longer < (length before + room) + 1 - length arena
underway-smaller s n room before start arena old longer new underway turn =
    let more : IsUnderway s n room before start longer new =
    underway-more s n room before start arena old longer new underway turn in
    let few : length longer ≤ length before + room = underway-few s n room before start longer new more in
    let one : length longer ≡ length arena + 1 = ap length turn.pushed ∙ length_push arena turn.settled in
    omega arith

-- too many states are reached also from the start on
pub crowd-underway : (s : Setting) (n room : ℕ) (before : List Settled) (start : Sheet) (arena : List Settled) (sheet : Sheet)
    → IsUnderway s n room before start arena sheet → ShowsCrowdFrom s n room arena sheet
    → ShowsCrowdOver s n room before start
crowd-underway s n room before start arena sheet underway shows =
    λ base attained. shows base (length before) underway.ordered.start (underway.attained base attained)

-- what stands at a place of the arena
at-place : (arena : List Settled) (w : ℕ) → w < length arena → slice_get arena w ≡ Some (settled_at arena w)
at-place arena w within = slice_get-get_or arena w (settled_at [] 0) within

-- the states of a block differ by their places
block-apart : (from : ℕ) (arena : List Settled) → IsDistinct state_eq (states_of (drop from arena)) → AreApart arena from (length arena)
block-apart from arena distinct = λ v w first second before.
    let low : from ≤ v = first.low in
    let high : w < length arena = second.high in
    let short : length (states_of (drop from arena)) ≡ length arena - from =
    length-map (drop from arena) (λ (e : Settled). e.state) ∙ length-drop from arena in
    subst (λ st. state_eq st (settled_at arena w).state ≡ false) (state_at v low (omega arith))
    (subst (λ st. state_eq (get_or (states_of (drop from arena)) (v - from) (settled_at [] 0).state) st ≡ false) (state_at w (omega arith) high)
    (apart_from_distinct state_eq (states_of (drop from arena)) (v - from) (w - from) (settled_at [] 0).state distinct (omega arith) (omega arith)))
  where
    state_at : (v : ℕ) → from ≤ v → v < length arena
        → get_or (states_of (drop from arena)) (v - from) (settled_at [] 0).state ≡ (settled_at arena v).state
    state_at v low high =
        let short : length (drop from arena) ≡ length arena - from = length-drop from arena in
        let place : from + (v - from) ≡ v = omega arith in
        get_or-map (λ (e : Settled). e.state) (drop from arena) (v - from) (settled_at [] 0) (settled_at [] 0).state (omega arith)
        ∙ ap (λ (e : Settled). e.state) (get_or-drop from arena (v - from) (settled_at [] 0) ∙ ap (settled_at arena) place)

-- what is settled from a place on, as a state at a place
settled-inside : (from : ℕ) (arena : List Settled) (st : State) (cell : Cell) (most : ℕ) → cell.label ≤ most
    → IsSettledFrom from arena (record { state = st; label = cell.label; way = cell.way }) → IsSettled arena from (length arena) st most
settled-inside from arena st cell most enough is =
    let here : settled_at arena is.place ≡ settled_with st cell.label cell.way =
    get_or_from_slice_get arena is.place (settled_with st cell.label cell.way) (settled_at [] 0) is.there in
    let label : (settled_at arena is.place).label ≡ cell.label = ap (λ (e : Settled). e.label) here in
    record {
      place = is.place;
      inside = record {
        low = is.after;
        high = slice_get_within arena is.place (settled_with st cell.label cell.way) is.there;
      };
      same = ap (λ (e : Settled). e.state) here;
      enough = omega arith;
    }

-- when nothing waits any more, all that is listed is settled
listed-settled : (from : ℕ) (arena : List Settled) (old new : Sheet) (front : ℕ) → IsOrdered from arena old front → IsDrained old new
    → (st : State) (most : ℕ) → IsListedOn old.cells st most → IsSettled arena from (length arena) st most
listed-settled from arena old new front ordered drained st most is =
    settled-inside from arena st is.cell most is.enough (ordered.settled st is.cell is.listed (drained.none st is.cell is.listed))

-- and so the node is done
pub done-drained : (s : Setting) (n room : ℕ) (before : List Settled) (start : Sheet) (arena : List Settled) (old new : Sheet)
    → IsUnderway s n room before start arena old → IsDrained old new → IsDone s n room before start arena
done-drained s n room before start arena old new underway drained = record {
  block = underway.block;
  grown = underway.grown;
  few =
      let few : length arena ≤ length before + length old.cells = block-few (length before) arena old underway.front underway.ordered in
      let whole : length arena ≡ length before + length underway.block = ap length underway.grown ∙ length-append before underway.block in
      let within : length old.cells ≤ room = underway.within in
      omega arith;
  apart = block-apart (length before) arena underway.ordered.differ;
  attained = λ base attained w inside.
      (met base attained w inside).attained;
  arrived = λ st most listed. all st most (underway.lower st most listed);
  enc = λ base attained w a inside.
      each-gain (enc_gain s n a (settled_at arena w).state) (settled_at arena w).label
      (λ gain gains. in_block base attained w a gain inside (enc-across s n a (settled_at arena w).state (held w inside) gain gains));
  dec = λ base attained w a inside.
      each-gain (dec_gain s n a (settled_at arena w).state) (settled_at arena w).label
      (λ gain gains. in_block base attained w a gain inside (dec-across s n a (settled_at arena w).state (held w inside) gain gains));
  send = λ w to inside. gain-inside (send_gain s n to (settled_at arena w).state) (settled_at arena w).label ((closed w inside).send to);
}
  where
    all : (st : State) (most : ℕ) → IsListedOn old.cells st most → IsSettled arena (length before) (length arena) st most
    all = listed-settled (length before) arena old new underway.front underway.ordered drained

    closed : (w : ℕ) → IsFrom (length before) (length arena) w → IsClosedOn s n old.cells (settled_at arena w)
    closed w inside = underway.closed w (settled_at arena w) inside.low (at-place arena w inside.high)

    met : (base : ℕ) → AreAttained s n base (length before) before start → (w : ℕ) → IsFrom (length before) (length arena) w
        → IsMet s arena n base (length before) w (settled_at arena w).state (settled_at arena w).label (settled_at arena w).way
    met base attained w inside = (underway.attained base attained).block w (settled_at arena w) inside.low (at-place arena w inside.high)

    held : (w : ℕ) → IsFrom (length before) (length arena) w → IsHeldAt s n (settled_at arena w).state
    held w inside =
        underway.known (settled_at arena w).state (cell_with (settled_at arena w).label (settled_at arena w).way)
        (underway.ordered.rests w (settled_at arena w) inside.low (at-place arena w inside.high)).listed

    cut-fits : (n : ℕ) → cut n ≤ 2 ^ 128 - 1
    cut-fits n = fits n (2 ^ 128 - 1)
      where
        fits : (n most : ℕ) → min n most ≤ most
        fits n most = omega arith

    in_block : (base : ℕ) → AreAttained s n base (length before) before start → (w : ℕ) (a : AttrId) (gain : Gain)
        → IsFrom (length before) (length arena) w → IsAcross s n a.0 (settled_at arena w).state gain
        → IsGainIn arena (length before) (length arena) (settled_at arena w).label gain
    in_block base attained w a gain inside is =
        crossing-in s n (length before) (length arena) arena w a.0 gain is
        (each_crossed s n (length before) arena
        (λ v b from crosses tried. all _ _ ((closed v from).tried b crosses tried))
        (λ v from. (met base attained v from).traced)
        (λ v from. let label = (met base attained v from).attained.costs in rw label (cut-fits (cost s (met base attained v from).attained.term)))
        w a.0 inside is.crosses)

    each-gain : (found : Option Gain) (label : ℕ)
        → ((gain : Gain) → found ≡ Some gain → IsGainIn arena (length before) (length arena) label gain)
        → IfSome found (IsGainIn arena (length before) (length arena) label)
    each-gain None label each = tt
    each-gain (Some gain) label each = each gain refl

    gain-inside : (gain : Option Gain) (label : ℕ) → IfSome gain (IsGainListed old.cells label)
        → IfSome gain (IsGainIn arena (length before) (length arena) label)
    gain-inside None label listed = tt
    gain-inside (Some gain) label listed = all gain.state (cut (label + gain.cost)) listed

-- by what a turn tells: there was one, or nothing waits
pub turn-more : (s : Setting) (n room : ℕ) (more : Bool) (arena longer : List Settled) (old new : Sheet) → more ≡ true
    → IsTurn s n room more arena old longer new → IsTurned s n room arena old longer new
turn-more s n room more arena longer old new is turn = subst (λ b. IsTurn s n room b arena old longer new) is turn

pub turn-last : (s : Setting) (n room : ℕ) (more : Bool) (before : List Settled) (start : Sheet) (arena longer : List Settled) (old new : Sheet)
    → more ≡ false → IsTurn s n room more arena old longer new → IsUnderway s n room before start arena old → IsDone s n room before start longer
turn-last s n room more before start arena longer old new is turn underway =
    let last : (longer ≡ arena) × IsDrained old new = subst (λ b. IsTurn s n room b arena old longer new) is turn in
    subst (IsDone s n room before start) (sym last.0) (done-drained s n room before start arena old new underway last.1)
