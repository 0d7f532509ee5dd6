-- Attributes across which a state has a settled neighbour: a step across them gains nothing that is not listed, and so it stays as a table
-- grows and its labels fall.
use Rattle.std.proofs.Common.{◌≡◌, ℕ, zero, suc, ◌+◌, ◌^◌, ◌≤◌, ◌<◌, ◌==◌, ◌⊎◌, inl, inr, Bool, true, false, ◌&&◌, ◌||◌, not, List, [], ◌∷◌, ◌++◌, length, get_or, take, Option, Some, None, cond, bit_or, refl, sym, ◌∙◌, ap, subst, true≢false, arith}
use Rattle.std.specs.Prelude.{IfSome, IsSomeAnd, option_map, slice_get, slice_set}
use Rattle.std.specs.Map.{keys_of, values_of}
use Rattle.std.proofs.lemmas.Bool.{eqb-false, eqb-true}
use Rattle.std.proofs.lemmas.List.{get_or-set_other, get_or-set_same, get_or-take, get_or_append_left, get_or_default, get_or_push, length-take-le, length_push}
use Rattle.std.proofs.lemmas.Map.Entries.{length-keys_of}
use Rattle.base_laws.specs.Sets.{has, without}
use Rattle.base_laws.proofs.SetLaws.{has-bit_or, has-empty, has-single, has-without}
use Rattle.mq_base.specs.declared.attr_set.AttrSet.{AttrSet}
use Rattle.mq_base.specs.declared.ids.AttrId.{AttrId}
use Rattle.cost_model.specs.Costs.{cut, sealing}
use Rattle.extended_plan.specs.declared.state.State.{State}
use Rattle.extended_plan.specs.Gains.{Gain, across, cross_gain, crossable}
use Rattle.extended_plan.specs.Job.{told}
use Rattle.extended_plan.specs.Setting.{Setting}
use Rattle.extended_plan.specs.States.{state_eq}
use Rattle.extended_plan.proofs.CrossLaws.{across-back}
use Rattle.indexmap.specs.IndexMap.{insert_entry, set_value_at}
use Rattle.assign_table.specs.declared.cell.Cell.{Cell}
use Rattle.assign_table.specs.declared.table.Table.{Table}
use Rattle.assign_table.specs.declared.way.Settled.{Settled}
use Rattle.assign_table.specs.inside.Cells.{IsListedOn, cell_of, state_at}
use Rattle.assign_table.specs.inside.Crossing.{IsTried}
use Rattle.assign_table.specs.inside.Neighbours.{AreAllNear, AreNear, near_at}
use Rattle.assign_table.specs.inside.Settling.{AreTriedBut, Continues, IsFront}
use Rattle.assign_table.specs.inside.Sheet.{sheet_of}
use Rattle.assign_table.proofs.ArenaLaws.{below-or-last}
use Rattle.assign_table.proofs.CrossLaws.{gained-across}
use Rattle.assign_table.proofs.QueueLaws.{entry-last, keys-last, keys-set, length-set, state_at-last}

-- what is listed, in two spellings
pub low-listed : (cells : List (State × Cell)) (st : State) (most : ℕ) → IsSomeAnd (cell_of cells st) (λ cell. cell.label ≤ most)
    → IsListedOn cells st most
low-listed cells st most low = by_cell (cell_of cells st) refl low
  where
    by_cell : (found : Option Cell) → cell_of cells st ≡ found → IsSomeAnd found (λ cell. cell.label ≤ most) → IsListedOn cells st most
    by_cell None is low = absurd low
    by_cell (Some cell) is low = record { cell = cell; listed = is; enough = low }

pub listed-low : (cells : List (State × Cell)) (st : State) (most : ℕ) → IsListedOn cells st most
    → IsSomeAnd (cell_of cells st) (λ cell. cell.label ≤ most)
listed-low cells st most is =
    subst (λ found. IsSomeAnd found (λ cell. cell.label ≤ most)) (sym is.listed) is.enough

-- ---- across an attribute

-- the step was taken across the attribute from a state that is listed, so that state is across it from what was gained
pub crossing-back : (s : Setting) (n : ℕ) (cells : List (State × Cell)) (e : Settled) (front : ℕ) (a : AttrId) (found : Option Gain)
    → found ≡ cross_gain s n a e.state → IsListedOn cells e.state e.label → e.label ≤ front
    → IfSome found (λ gain. AreNear cells gain.state (2 ^ a.0) front)
crossing-back s n cells e front a None is listed low = tt
crossing-back s n cells e front a (Some gain) is listed low = λ b there.
    let one : a.0 ≡ b = eqb-true a.0 b (sym (has-single a.0 b) ∙ there) in
    let back : across b gain.state ≡ e.state =
    ap (λ k. across k gain.state) (sym one) ∙ ap (across a.0) (gained-across s n a e.state gain (sym is)).state ∙ across-back a.0 e.state in
    let below : listed.cell.label ≤ e.label = listed.enough in
    listed-low cells (across b gain.state) front
    (subst (λ st. IsListedOn cells st front) (sym back) (record { cell = listed.cell; listed = listed.listed; enough = omega arith }))

-- the state across an attribute that is near is listed at any label that is no lower
near-listed : (cells : List (State × Cell)) (e : Settled) (near a cost : ℕ) → e.label < 2 ^ 128 → AreNear cells e.state near e.label
    → has near a ≡ true → IsListedOn cells (across a e.state) (cut (e.label + cost))
near-listed cells e near a cost fits are there =
    let listed : IsListedOn cells (across a e.state) e.label = low-listed cells (across a e.state) e.label (are a there) in
    let low : listed.cell.label ≤ e.label = listed.enough in
    record { cell = listed.cell; listed = listed.listed; enough = omega arith }

-- no attribute is near
pub none-near : (cells : List (State × Cell)) (st : State) (front : ℕ) → AreNear cells st 0 front
none-near cells st front = λ a there. absurd (true≢false (sym there ∙ has-empty a))

pub none-crossing : (cells : List (State × Cell)) (found : Option Gain) (front : ℕ) → IfSome found (λ gain. AreNear cells gain.state 0 front)
none-crossing cells None front = tt
none-crossing cells (Some gain) front = none-near cells gain.state front

-- what a call told of a gain
pub told-near : (found : Option Gain) (answer : State × ℕ) (cells : List (State × Cell)) (near front : ℕ)
    → Some answer ≡ option_map told found → IfSome found (λ gain. AreNear cells gain.state near front)
    → AreNear cells answer.0 near front
told-near None answer cells near front is are = cc
told-near (Some gain) answer cells near front is are =
    let same : answer ≡ told gain = cc in
    subst (λ st. AreNear cells st near front) (sym (ap (λ (p : State × ℕ). p.0) same)) are

-- the front stays while what is gained from it is offered
pub front-later : (s : Setting) (n room at : ℕ) (e : Settled) (old new : Table) → IsFront old e → new.front ≡ old.front
    → Continues s n room at e (sheet_of old) (sheet_of new) → IsFront new e
front-later s n room at e old new front same later =
    let low : e.label ≤ old.front = front.low in
    record { listed = later.lower e.state e.label front.listed; low = omega arith; fits = front.fits }

-- at first each attribute that is tried and not left is one that is near
pub attributes-first : (s : Setting) (n : ℕ) (cells : List (State × Cell)) (e : Settled) (all near left : ℕ) → e.label < 2 ^ 128
    → ((a : ℕ) → has (crossable s n e.state.holder) a ≡ true → IsTried e.way a → has all a ≡ true) → left ≡ without all near
    → AreNear cells e.state near e.label → AreTriedBut s n cells e left
attributes-first s n cells e all near left fits each less are a crosses tried gone =
    near-listed cells e near a (sealing s.basis a e.state.holder.0 n) fits are
    (near_one (has all a) (has near a) (each a crosses tried) (sym (has-without all near a) ∙ ap (λ set. has set a) (sym less) ∙ gone))
  where
    near_one : (x y : Bool) → x ≡ true → (x && not y) ≡ false → y ≡ true
    near_one true true is none = refl
    near_one true false is none = absurd (true≢false none)
    near_one false y is none = absurd (true≢false (sym is))

-- ---- tables

-- what is listed with a label of at most so much is with one of at most more
pub listed-higher : (cells : List (State × Cell)) (st : State) (most more : ℕ) → most ≤ more → IsListedOn cells st most → IsListedOn cells st more
listed-higher cells st most more high was =
    let low : was.cell.label ≤ most = was.enough in record { cell = was.cell; listed = was.listed; enough = omega arith }

pub near-higher : (cells : List (State × Cell)) (st : State) (near most more : ℕ) → most ≤ more → AreNear cells st near most
    → AreNear cells st near more
near-higher cells st near most more high are = λ a there.
    listed-low cells (across a st) more
    (listed-higher cells (across a st) most more high (low-listed cells (across a st) most (are a there)))

-- what is read at a place
near_there : (near : List AttrSet) (place : ℕ) (was : AttrSet) → place < length near → was ≡ get_or near place was
    → near_at near place ≡ was
near_there near place was inside there = get_or_default near place (record { 0 = 0 }) was inside ∙ sym there

pub near-read : (cells : List (State × Cell)) (near : List AttrSet) (front most place : ℕ) (st : State) (was : AttrSet)
    → length cells ≤ length near → place < length cells → was ≡ get_or near place was → state_at (keys_of cells) place ≡ st → front ≤ most
    → AreAllNear cells near front → AreNear cells st was.0 most
near-read cells near front most place st was each below there same high all =
    near-higher cells st was.0 front most high
    (subst (λ u. AreNear cells u was.0 front) same
    (subst (λ (x : AttrSet). AreNear cells (state_at (keys_of cells) place) x.0 front)
    (near_there near place was (omega arith) there) (all place below)))

-- attributes are told at a place
pub all-noted : (cells : List (State × Cell)) (near : List AttrSet) (front place : ℕ) (was told : AttrSet) (m : ℕ)
    → place < length near → was ≡ get_or near place was → told.0 ≡ bit_or was.0 m → AreNear cells (state_at (keys_of cells) place) m front
    → AreAllNear cells near front → AreAllNear cells (slice_set near place told) front
all-noted cells near front place was told m inside there union here all = λ q below. by_place q below (q == place) refl
  where
    stood : near_at near place ≡ was
    stood = near_there near place was inside there

    either : (x y : Bool) → (x || y) ≡ true → (x ≡ true) ⊎ (y ≡ true)
    either true y is = inl refl
    either false y is = inr is

    by_place : (q : ℕ) → q < length cells → (b : Bool) → (q == place) ≡ b
        → AreNear cells (state_at (keys_of cells) q) (near_at (slice_set near place told) q).0 front
    by_place q below true is =
        let same : q ≡ place = eqb-true q place is in
        let set : near_at (slice_set near place told) place ≡ told =
        get_or-set_same near place told (record { 0 = 0 }) inside in
        subst (λ k. AreNear cells (state_at (keys_of cells) k) (near_at (slice_set near place told) k).0 front) (sym same)
        (subst (λ (x : AttrSet). AreNear cells (state_at (keys_of cells) place) x.0 front) (sym set)
        (subst (λ k. AreNear cells (state_at (keys_of cells) place) k front) (ap (λ (x : AttrSet). bit_or x.0 m) stood ∙ sym union)
        (λ a member.
        of_either a (either _ _ (sym (has-bit_or (near_at near place).0 m a) ∙ member))
        (subst (λ k. k < length cells) same below))))
      where
        of_either : (a : ℕ) → (has (near_at near place).0 a ≡ true) ⊎ (has m a ≡ true) → place < length cells
            → IsSomeAnd (cell_of cells (across a (state_at (keys_of cells) place))) (λ cell. cell.label ≤ front)
        of_either a (inl old) within = all place within a old
        of_either a (inr new) within = here a new
    by_place q below false is =
        subst (λ (x : AttrSet). AreNear cells (state_at (keys_of cells) q) x.0 front)
        (sym (get_or-set_other near place q told (record { 0 = 0 }) (eqb-false q place is))) (all q below)

-- a cell's label falls
listed-set : (cells : List (State × Cell)) (place : ℕ) (was cell : Cell) → slice_get (values_of cells) place ≡ Some was → cell.label ≤ was.label
    → (other : State) (most : ℕ) → IsListedOn cells other most → IsListedOn (set_value_at cells place cell) other most
listed-set [] place was cell there less other most is = is
listed-set (e ∷ rest) zero was cell there less other most is = by_test (state_eq other e.0) refl
  where
    by_test : (b : Bool) → state_eq other e.0 ≡ b → IsListedOn ((e.0, cell) ∷ rest) other most
    by_test true same =
        let found : Some e.1 ≡ Some is.cell = sym (ap (λ b. cond b (Some e.1) (cell_of rest other)) same) ∙ is.listed in
        let one : e.1 ≡ is.cell = cc in
        let first : e.1 ≡ was = cc in
        let low : is.cell.label ≤ most = is.enough in
        let labels : is.cell.label ≡ was.label = ap (λ (c : Cell). c.label) (sym one ∙ first) in
        record { cell = cell; listed = ap (λ b. cond b (Some cell) (cell_of rest other)) same; enough = omega arith }
    by_test false apart = record {
      cell = is.cell;
      listed = ap (λ b. cond b (Some cell) (cell_of rest other)) apart ∙ sym (ap (λ b. cond b (Some e.1) (cell_of rest other)) apart) ∙ is.listed;
      enough = is.enough;
    }
listed-set (e ∷ rest) (suc place) was cell there less other most is =
    by_test (state_eq other e.0) refl (λ later. listed-set rest place was cell there less other most later)
  where
    by_test : (b : Bool) → state_eq other e.0 ≡ b → (IsListedOn rest other most → IsListedOn (set_value_at rest place cell) other most)
        → IsListedOn (e ∷ set_value_at rest place cell) other most
    by_test true same further = record {
      cell = is.cell;
      listed = ap (λ b. cond b (Some e.1) (cell_of (set_value_at rest place cell) other)) same
          ∙ sym (ap (λ b. cond b (Some e.1) (cell_of rest other)) same) ∙ is.listed;
      enough = is.enough;
    }
    by_test false apart further =
        let later : IsListedOn (set_value_at rest place cell) other most =
        further
        (record { cell = is.cell; listed = sym (ap (λ b. cond b (Some e.1) (cell_of rest other)) apart) ∙ is.listed; enough = is.enough }) in
        record {
          cell = later.cell;
          listed = ap (λ b. cond b (Some e.1) (cell_of (set_value_at rest place cell) other)) apart ∙ later.listed;
          enough = later.enough;
        }

pub all-lowered : (cells : List (State × Cell)) (near : List AttrSet) (front place : ℕ) (was cell : Cell)
    → slice_get (values_of cells) place ≡ Some was → cell.label ≤ was.label → AreAllNear cells near front
    → AreAllNear (set_value_at cells place cell) near front
all-lowered cells near front place was cell there less all = λ q below a inside.
    let here : State = across a (state_at (keys_of cells) q) in
    listed-low (set_value_at cells place cell) (across a (state_at (keys_of (set_value_at cells place cell)) q)) front
    (subst (λ (states : List State). IsListedOn (set_value_at cells place cell) (across a (state_at states q)) front) (sym (keys-set cells place cell))
    (listed-set cells place was cell there less here front
    (low-listed cells here front (all q (subst (λ k. q < k) (length-set cells place cell) below) a inside))))

-- a new state comes last
cell_of-longer : (cells : List (State × Cell)) (c : State × Cell) (other : State) (cell : Cell) → cell_of cells other ≡ Some cell
    → cell_of (cells ++ c ∷ []) other ≡ Some cell
cell_of-longer [] c other cell found = cc
cell_of-longer (e ∷ rest) c other cell found = by_test (state_eq other e.0) refl (cell_of-longer rest c other cell)
  where
    by_test : (b : Bool) → state_eq other e.0 ≡ b → (cell_of rest other ≡ Some cell → cell_of (rest ++ c ∷ []) other ≡ Some cell)
        → cell_of (e ∷ rest ++ c ∷ []) other ≡ Some cell
    by_test true same further =
        ap (λ b. cond b (Some e.1) (cell_of (rest ++ c ∷ []) other)) same
        ∙ sym (ap (λ b. cond b (Some e.1) (cell_of rest other)) same) ∙ found
    by_test false apart further =
        ap (λ b. cond b (Some e.1) (cell_of (rest ++ c ∷ []) other)) apart
        ∙ further (sym (ap (λ b. cond b (Some e.1) (cell_of rest other)) apart) ∙ found)

listed-longer : (cells : List (State × Cell)) (c : State × Cell) (other : State) (most : ℕ) → IsListedOn cells other most
    → IsListedOn (cells ++ c ∷ []) other most
listed-longer cells c other most is =
    record { cell = is.cell; listed = cell_of-longer cells c other is.cell is.listed; enough = is.enough }

-- the attributes of the states alone count
pub all-cut : (cells : List (State × Cell)) (near : List AttrSet) (front : ℕ) → AreAllNear cells near front
    → AreAllNear cells (take (length cells) near) front
all-cut cells near front all = λ q below.
    subst (λ (x : AttrSet). AreNear cells (state_at (keys_of cells) q) x.0 front)
    (sym (get_or-take (length cells) near q (record { 0 = 0 }) below)) (all q below)

pub all-longer : (cells : List (State × Cell)) (near : List AttrSet) (front : ℕ) (more : AttrSet) → length cells ≤ length near
    → AreAllNear cells near front → AreAllNear cells (near ++ more ∷ []) front
all-longer cells near front more each all = λ q below.
    subst (λ (x : AttrSet). AreNear cells (state_at (keys_of cells) q) x.0 front)
    (sym (get_or_append_left near (more ∷ []) (record { 0 = 0 }) q (omega arith))) (all q below)

pub all-added : (cells after : List (State × Cell)) (near : List AttrSet) (front : ℕ) (st : State) (cell : Cell) (m : ℕ)
    → cell_of cells st ≡ None → after ≡ insert_entry state_eq cells st cell → (near_at near (length cells)).0 ≡ m
    → AreNear cells st m front → AreAllNear cells near front → AreAllNear after near front
all-added cells after near front st cell m absent inserted last here all =
    subst (λ (cs : List (State × Cell)). AreAllNear cs near front) (sym longer)
    (λ q below. by_place q (below-or-last q (length cells) (subst (λ k. q < k) (length_push cells (st, cell)) below)))
  where
    longer : after ≡ cells ++ (st, cell) ∷ []
    longer = inserted ∙ entry-last cells st cell absent

    by_place : (q : ℕ) → (q < length cells) ⊎ (q ≡ length cells)
        → AreNear (cells ++ (st, cell) ∷ []) (state_at (keys_of (cells ++ (st, cell) ∷ [])) q) (near_at near q).0 front
    by_place q (inl before) = λ a there.
        let within : q < length (keys_of cells) = subst (λ k. q < k) (sym (length-keys_of cells)) before in
        let here : State = across a (state_at (keys_of cells) q) in
        listed-low (cells ++ (st, cell) ∷ []) (across a (state_at (keys_of (cells ++ (st, cell) ∷ [])) q)) front
        (subst (λ u. IsListedOn (cells ++ (st, cell) ∷ []) (across a u) front)
        (sym (ap (λ states. state_at states q) (keys-last cells st cell) ∙ get_or_append_left (keys_of cells) (st ∷ []) _ q within))
        (listed-longer cells (st, cell) here front (low-listed cells here front (all q before a there))))
    by_place q (inr end) = λ a there.
        listed-low (cells ++ (st, cell) ∷ []) (across a (state_at (keys_of (cells ++ (st, cell) ∷ [])) q)) front
        (subst (λ u. IsListedOn (cells ++ (st, cell) ∷ []) (across a u) front)
        (sym (ap (λ states. state_at states q) (keys-last cells st cell) ∙ ap (state_at (keys_of cells ++ st ∷ [])) (end ∙ sym (length-keys_of cells))
        ∙ state_at-last (keys_of cells) st))
        (listed-longer cells (st, cell) (across a st) front
        (low-listed cells (across a st) front (here a (subst (λ k. has k a ≡ true) (ap (λ k. (near_at near k).0) end ∙ last) there)))))

-- a new state's attributes are put behind those of the others
pub all-put : (cells after : List (State × Cell)) (near now : List AttrSet) (front place : ℕ) (st : State) (cell : Cell) (m : AttrSet)
    → length cells ≤ length near → place ≡ length cells → cell_of cells st ≡ None → after ≡ insert_entry state_eq cells st cell
    → now ≡ take place near ++ m ∷ [] → AreNear cells st m.0 front → AreAllNear cells near front → AreAllNear after now front
all-put cells after near now front place st cell m each end absent inserted put here all =
    let cut : List AttrSet = take (length cells) near in
    let long : length cut ≡ length cells = length-take-le (length cells) near each in
    subst (λ (sets : List AttrSet). AreAllNear after sets front) (sym (put ∙ ap (λ k. take k near ++ m ∷ []) end))
    (all-added cells after (cut ++ m ∷ []) front st cell m.0 absent inserted
    (ap (λ (x : AttrSet). x.0) (get_or_push cut m (record { 0 = 0 }) (length cells) long)) here
    (all-longer cells cut front m (omega arith) (all-cut cells near front all)))
