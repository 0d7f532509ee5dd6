-- What a table keeps of what waits, by places, and what it tells of it, by states.
use Rattle.std.proofs.Common.{◌≡◌, ℕ, zero, suc, ◌+◌, ◌≤◌, ◌<◌, true, false, List, [], ◌∷◌, ◌++◌, length, map, get_or, Option, Some, None, IfNone, IfSome, Ok, Err, Result, OnOk, OnErr, refl, sym, ◌∙◌, ap, subst, arith, slice_get, ◌==◌, if◌then◌else◌}
use Rattle.std.specs.BinaryHeap.{IsHeap, IsUpperBound, PopsGreatest}
use Rattle.std.specs.List.{All, IsDistinct, position}
use Rattle.std.specs.List.Sorted.{IsPermutation}
use Rattle.std.specs.Map.{keys_of, values_of}
use Rattle.std.specs.Ordering.{is_lt, ordering_then}
use Rattle.std.specs.declared.cmp.Ordering.{Ordering}
use Rattle.std.specs.declared.cmp.Ordering.TheVariants.{Less, Equal, Greater}
use Rattle.std.specs.declared.cmp.Reverse.{Reverse}
use Rattle.std.proofs.lemmas.Bool.{le-ltb, lt-ltb}
use Rattle.std.proofs.lemmas.List.{get_or-append-add, get_or-map, get_or_append_left, length-map}
use Rattle.std.proofs.lemmas.List.Elements.{All-cons, All-head, All-tail}
use Rattle.std.proofs.lemmas.List.Quantifiers.{position-Some}
use Rattle.std.proofs.lemmas.List.Sorted.{All-permutation, IsPermutation-map}
use Rattle.std.proofs.lemmas.Map.Entries.{length-keys_of}
use Rattle.indexmap.specs.IndexMap.{insert_entry, set_value_at}
use Rattle.indexmap.proofs.MapLemmas.{Found, Found-position, absent_from_lookup, insert_entry-absent, insert_entry-first}
use Rattle.extended_plan.proofs.EntryLaws.{same_state}
use Rattle.extended_plan.specs.declared.state.State.{State}
use Rattle.extended_plan.specs.States.{state_eq}
use Rattle.assign_table.specs.declared.cell.Cell.{Cell}
use Rattle.assign_table.specs.declared.cell.Waiting.{Waiting}
use Rattle.assign_table.specs.declared.way.Way.{Way}
use Rattle.assign_table.specs.inside.Cells.{cell_of, state_at}
use Rattle.assign_table.specs.inside.Queue.{place_cmp}
use Rattle.assign_table.specs.inside.Sheet.{IsWritten, Sheet, Waits, fresh_of, is_lower, waiting_cmp, waits_at}

-- the sheet of these cells and of what waits at these places
abbrev pub told : List (State × Cell) → List (Reverse Waiting) → Sheet
told cells queue = record { cells = cells; queue = map (waits_at (keys_of cells)) queue }

-- what follows from either outcome
pub on_either : {X E : Type 0} (res : Result X E) (A B P : Type 0) → OnOk res A → OnErr res B → (A → P) → (B → P) → P
on_either (Ok x) A B P ok err f g = f ok
on_either (Err e) A B P ok err f g = g err

-- ---- places

-- places stay below the number of cells where one more is put, and where there are more cells
pub placed-pushed : (n m : ℕ) (r : Reverse Waiting) (old new : List (Reverse Waiting)) → n ≤ m → All (λ w. w.0.place < n) old
    → r.0.place < m → IsPermutation (r ∷ old) new → All (λ w. w.0.place < m) new
placed-pushed n m r old new more all here moved =
    All-permutation (λ w. w.0.place < m) (r ∷ old) new moved
    (All-cons (λ w. w.0.place < m) r old here (λ k d within. let before : (get_or old k d).0.place < n = all k d within in omega arith))

-- what waits at places below the number of states waits as the same states when one more comes
pub waits-longer : (states : List State) (st : State) (queue : List (Reverse Waiting)) → All (λ w. w.0.place < length states) queue
    → map (waits_at (states ++ st ∷ [])) queue ≡ map (waits_at states) queue
waits-longer states st [] all = refl
waits-longer states st (r ∷ queue) all =
    let within : r.0.place < length states = All-head (λ w. w.0.place < length states) r queue all in
    ap (λ (w : Waits). w ∷ map (waits_at (states ++ st ∷ [])) queue)
    (ap (λ (u : State). record { label = r.0.label; state = u }) (get_or_append_left states (st ∷ []) _ r.0.place within))
    ∙ ap (λ (ws : List Waits). waits_at states r ∷ ws)
    (waits-longer states st queue (All-tail (λ w. w.0.place < length states) r queue all))

-- the last of the states
pub state_at-last : (states : List State) (st : State) → state_at (states ++ st ∷ []) (length states) ≡ st
state_at-last states st =
    let end : length states ≡ length states + 0 = omega arith in
    ap (state_at (states ++ st ∷ [])) end ∙ get_or-append-add states (st ∷ []) 0 _

-- ---- order

lt-front : (x y : Ordering) → is_lt (ordering_then x y) ≡ false → is_lt x ≡ false
lt-front Less y h = h
lt-front Equal y h = refl
lt-front Greater y h = refl

-- what is a heap by places is one by labels
pub heap-told : (states : List State) (queue : List (Reverse Waiting)) → IsHeap place_cmp queue
    → IsHeap waiting_cmp (map (waits_at states) queue)
unfolding IsHeap
heap-told states queue heap = λ p k d low first last within.
    let inside : k < length queue = omega (arith, length-map queue (waits_at states)) in
    let none : Reverse Waiting = record { 0 = record { label = 0; place = 0 } } in
    let parent : get_or (map (waits_at states) queue) p d ≡ waits_at states (get_or queue p none) =
    get_or-map (waits_at states) queue p none d (omega arith) in
    let child : get_or (map (waits_at states) queue) k d ≡ waits_at states (get_or queue k none) =
    get_or-map (waits_at states) queue k none d inside in
    ap (λ (w : Waits). is_lt (waiting_cmp w (get_or (map (waits_at states) queue) k d))) parent
    ∙ ap (λ (w : Waits). is_lt (waiting_cmp (waits_at states (get_or queue p none)) w)) child
    ∙ lt-front _ _ (heap p k none low first last inside)

-- ---- what is written

-- a new key goes last
pub entry-last : (cells : List (State × Cell)) (st : State) (cell : Cell) → cell_of cells st ≡ None
    → insert_entry state_eq cells st cell ≡ cells ++ (st, cell) ∷ []
entry-last cells st cell absent = insert_entry-absent state_eq st cell cells (absent_from_lookup (state_eq st) cells absent)

pub keys-last : (cells : List (State × Cell)) (st : State) (cell : Cell) → keys_of (cells ++ (st, cell) ∷ []) ≡ keys_of cells ++ st ∷ []
keys-last [] st cell = refl
keys-last (e ∷ rest) st cell = ap (λ (states : List State). e.0 ∷ states) (keys-last rest st cell)

-- a state that is put at its place waits with its label
pub told-put : (states : List State) (place label : ℕ) (st : State) (old new : List (Reverse Waiting)) → state_at states place ≡ st
    → IsPermutation (record { 0 = record { label = label; place = place } } ∷ old) new
    → IsPermutation (record { label = label; state = st } ∷ map (waits_at states) old) (map (waits_at states) new)
told-put states place label st old new same moved =
    subst (λ (u : State). IsPermutation (record { label = label; state = u } ∷ map (waits_at states) old) (map (waits_at states) new)) same
    (IsPermutation-map (waits_at states) (record { 0 = record { label = label; place = place } } ∷ old) new moved)

-- a value that is set leaves the keys as they are
pub keys-set : (cells : List (State × Cell)) (place : ℕ) (cell : Cell) → keys_of (set_value_at cells place cell) ≡ keys_of cells
keys-set [] place cell = refl
keys-set (e ∷ rest) zero cell = refl
keys-set (e ∷ rest) (suc place) cell = ap (λ (states : List State). e.0 ∷ states) (keys-set rest place cell)

pub length-set : (cells : List (State × Cell)) (place : ℕ) (cell : Cell) → length (set_value_at cells place cell) ≡ length cells
length-set [] place cell = refl
length-set (e ∷ rest) zero cell = refl
length-set (e ∷ rest) (suc place) cell = ap suc (length-set rest place cell)

-- what stands at the place of a state
pub record IsPlaced (cells : List (State × Cell)) (st : State) (place : ℕ) : Type 0 where
  pub state : state_at (keys_of cells) place ≡ st
  pub cell : cell_of cells st ≡ slice_get (values_of cells) place
  pub set : (cell : Cell) → set_value_at cells place cell ≡ insert_entry state_eq cells st cell

pub is_placed : (cells : List (State × Cell)) (st : State) (place : ℕ) → position (state_eq st) (keys_of cells) ≡ Some place
    → IsPlaced cells st place
is_placed cells st place at =
    let found : Found (state_eq st) cells place = Found-position (state_eq st) cells place at in
    record {
      state = sym (same_state st (state_at (keys_of cells) place) (position-Some (state_eq st) (keys_of cells) place _ at).1);
      cell = found.value;
      set = λ cell. sym (insert_entry-first state_eq st cell cells place found.first);
    }

-- a label is lower than that of the cell at a place, or it is not
pub lower_there : (cells : List (State × Cell)) (st : State) (place label : ℕ) (cell : Cell) → IsPlaced cells st place
    → slice_get (values_of cells) place ≡ Some cell → label < cell.label → is_lower label (cell_of cells st) ≡ true
lower_there cells st place label cell placed there less =
    ap (is_lower label) (placed.cell ∙ there) ∙ lt-ltb label cell.label less

pub not_lower_there : (cells : List (State × Cell)) (st : State) (place label : ℕ) (cell : Cell) → IsPlaced cells st place
    → slice_get (values_of cells) place ≡ Some cell → cell.label ≤ label → is_lower label (cell_of cells st) ≡ false
not_lower_there cells st place label cell placed there least =
    ap (is_lower label) (placed.cell ∙ there) ∙ le-ltb label cell.label least

-- a lower label was set and put
pub lowered : (cells : List (State × Cell)) (old new : List (Reverse Waiting)) (st : State) (place label : ℕ) (way : Way)
    → IsPlaced cells st place → IsDistinct state_eq (keys_of cells)
    → IsPermutation (record { 0 = record { label = label; place = place } } ∷ old) new → IsHeap place_cmp new
    → IsWritten (told cells old) st label way (told (set_value_at cells place (record { label = label; way = way })) new)
lowered cells old new st place label way placed distinct moved heap =
    let cell : Cell = record { label = label; way = way } in
    let keys : keys_of cells ≡ keys_of (set_value_at cells place cell) = sym (keys-set cells place cell) in
    record {
      cells = placed.set cell;
      queue = subst (λ (states : List State). IsPermutation (record { label = label; state = st } ∷ map (waits_at (keys_of cells)) old) (map (waits_at states) new)) keys
          (told-put (keys_of cells) place label st old new placed.state moved);
      heap = λ before. heap-told (keys_of (set_value_at cells place cell)) new heap;
      distinct = subst (λ (states : List State). IsDistinct state_eq states) keys distinct;
    }

-- a new state was added and put
pub added : (cells after : List (State × Cell)) (old new : List (Reverse Waiting)) (st : State) (place label : ℕ) (way : Way)
    → place ≡ length cells → cell_of cells st ≡ None → after ≡ insert_entry state_eq cells st (record { label = label; way = way })
    → IsDistinct state_eq (keys_of after) → All (λ w. w.0.place < length cells) old
    → IsPermutation (record { 0 = record { label = label; place = place } } ∷ old) new → IsHeap place_cmp new
    → IsWritten (told cells old) st label way (told after new)
added cells after old new st place label way end absent inserted distinct all moved heap =
    let cell : Cell = record { label = label; way = way } in
    let last : after ≡ cells ++ (st, cell) ∷ [] = inserted ∙ entry-last cells st cell absent in
    let keys : keys_of after ≡ keys_of cells ++ st ∷ [] = ap keys_of last ∙ keys-last cells st cell in
    let long : length cells ≡ length (keys_of cells) = sym (length-keys_of cells) in
    let here : state_at (keys_of after) place ≡ st =
    ap (λ (states : List State). state_at states place) keys ∙ ap (state_at (keys_of cells ++ st ∷ [])) (end ∙ long)
    ∙ state_at-last (keys_of cells) st in
    let stay : map (waits_at (keys_of after)) old ≡ map (waits_at (keys_of cells)) old =
    ap (λ (states : List State). map (waits_at states) old) keys
    ∙ waits-longer (keys_of cells) st old (subst (λ (n : ℕ). All (λ w. w.0.place < n) old) long all) in
    record {
      cells = inserted;
      queue = subst (λ (ws : List Waits). IsPermutation (record { label = label; state = st } ∷ ws) (map (waits_at (keys_of after)) new)) stay
          (told-put (keys_of after) place label st old new here moved);
      heap = λ before. heap-told (keys_of after) new heap;
      distinct = distinct;
    }

-- ---- what is taken

-- what is less than nothing by place is less than nothing by label
bound-told : (states : List State) (r : Reverse Waiting) (queue : List (Reverse Waiting)) → IsUpperBound place_cmp r queue
    → IsUpperBound waiting_cmp (waits_at states r) (map (waits_at states) queue)
bound-told states r [] bound = tt
bound-told states r (x ∷ queue) bound = (lt-front _ _ bound.0, bound-told states r queue bound.1)

-- what was popped waited at a place, and was the least by label
pub record IsPopped (cells : List (State × Cell)) (old : List (Reverse Waiting)) (r : Reverse Waiting) (new : List (Reverse Waiting)) : Type 0 where
  pub here : r.0.place < length cells
  pub placed : All (λ w. w.0.place < length cells) new
  pub heaped : IsHeap place_cmp new
  pub moved : IsPermutation (told cells old).queue (waits_at (keys_of cells) r ∷ (told cells new).queue)
  pub ordered : PopsGreatest waiting_cmp (told cells old).queue (waits_at (keys_of cells) r) (told cells new).queue
  pub least : IsUpperBound waiting_cmp (waits_at (keys_of cells) r) (told cells new).queue

pub is_popped : (cells : List (State × Cell)) (old : List (Reverse Waiting)) (r : Reverse Waiting) (new : List (Reverse Waiting))
    → All (λ w. w.0.place < length cells) old → IsHeap place_cmp old → IsPermutation old (r ∷ new)
    → PopsGreatest place_cmp old r new → (IsHeap place_cmp old → IsUpperBound place_cmp r new) → IsPopped cells old r new
is_popped cells old r new all heap moved greatest below =
    let each : All (λ w. w.0.place < length cells) (r ∷ new) = All-permutation (λ w. w.0.place < length cells) old (r ∷ new) moved all in
    record {
      here = All-head (λ w. w.0.place < length cells) r new each;
      placed = All-tail (λ w. w.0.place < length cells) r new each;
      heaped = (greatest heap).0;
      moved = IsPermutation-map (waits_at (keys_of cells)) old (r ∷ new) moved;
      ordered = λ before. (heap-told (keys_of cells) new (greatest heap).0, bound-told (keys_of cells) r old (greatest heap).1);
      least = bound-told (keys_of cells) r new (below heap);
    }

-- whether or not something was popped, places stay below the number of cells, and the heap is one
pub still_placed : (n : ℕ) (old new : List (Reverse Waiting)) (popped : Option (Reverse Waiting))
    → IfSome popped (λ r. IsPermutation old (r ∷ new)) → IfNone popped (new ≡ old) → All (λ w. w.0.place < n) old
    → All (λ w. w.0.place < n) new
still_placed n old new None moved same all = subst (λ queue. All (λ w. w.0.place < n) queue) (sym same) all
still_placed n old new (Some r) moved same all =
    All-tail (λ w. w.0.place < n) r new (All-permutation (λ w. w.0.place < n) old (r ∷ new) moved all)

pub still_heaped : (old new : List (Reverse Waiting)) (popped : Option (Reverse Waiting))
    → IfSome popped (λ r. PopsGreatest place_cmp old r new) → IfNone popped (new ≡ old) → IsHeap place_cmp old → IsHeap place_cmp new
still_heaped old new None greatest same heap = subst (IsHeap place_cmp) (sym same) heap
still_heaped old new (Some r) greatest same heap = (greatest heap).0

pub if_none : {X : Type 0} (found : Option X) (P Q : Type 0) → (P → Q) → IfNone found P → IfNone found Q
if_none None P Q f is = f is
if_none (Some x) P Q f is = tt

-- the state at the place of an entry
key-at : (cells : List (State × Cell)) (place : ℕ) (e : State × Cell) → slice_get cells place ≡ Some e
    → state_at (keys_of cells) place ≡ e.0
key-at [] place e is = cc
key-at (first ∷ rest) zero e is = cc
key-at (first ∷ rest) (suc place) e is = key-at rest place e is

-- what is told of what waited, by the entry at its place
pub fresh-there : (cells : List (State × Cell)) (r : Reverse Waiting) (st : State) (cell : Cell)
    → slice_get cells r.0.place ≡ Some (st, cell) → cell_of cells st ≡ Some cell
    → fresh_of (waits_at (keys_of cells) r) (cell_of cells (state_at (keys_of cells) r.0.place))
    ≡ (if cell.label == r.0.label then Some (record { state = st; label = cell.label; way = cell.way }) else None)
fresh-there cells r st cell there listed =
    let same : state_at (keys_of cells) r.0.place ≡ st = key-at cells r.0.place (st, cell) there in
    ap (λ (u : State). fresh_of (record { label = r.0.label; state = u }) (cell_of cells u)) same
    ∙ ap (fresh_of (record { label = r.0.label; state = st })) listed
