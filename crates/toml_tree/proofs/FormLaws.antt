-- Laws of reading a tree: what a walk over items, and over keys, has found so far.
use Rattle.std.proofs.Common.{◌≡◌, ℕ, ◌+◌, ◌<◌, ◌≤◌, Bool, ◌&&◌, List, [], ◌∷◌, ◌++◌, length, get_or, drop, Option, Some, None, option_map, Err, refl, sym, ap, append_assoc, string_bytes}
use Rattle.std.specs.Prelude.{option_and_then}
use Rattle.std.specs.List.{list_all}
use Rattle.std.specs.Map.{keys_of}
use Rattle.std.proofs.lemmas.List.{drop_all, append-nil}
use Rattle.toml.specs.Data.{Data}
use Rattle.toml.specs.View.{view, items_view, members_view}
use Rattle.toml.specs.declared.value.Value.{Value}
use Rattle.toml.proofs.Views.{Entry, items_view-drop}
use Rattle.toml_tree.specs.declared.error.ReadError.{ReadError}
use Rattle.toml_tree.specs.declared.error.ReadError.TheVariants.{Malformed, NoMemory}
use Rattle.toml_tree.specs.Form.{items_as, keys_pass, Reads}

-- what is read so far, and the rest after it
abbrev pub after : {A : Type 0} → List A → Option (List A) → Option (List A)
after done rest = option_map (λ others. done ++ others) rest

after-none : {A : Type 0} (rest : Option (List A)) → rest ≡ after [] rest
after-none None = refl
after-none (Some others) = refl

pub after-one : {A : Type 0} (done : List A) (first : A) (rest : Option (List A))
    → after done (option_and_then (λ others. Some (first ∷ others)) rest) ≡ after (done ++ first ∷ []) rest
after-one done first None = refl
after-one done first (Some others) = ap Some (sym (append_assoc done (first ∷ []) others))

-- before the first item
pub items_start : {A : Type 0} (read : Data → Option A) (values : List Value)
    → items_as read (items_view values) ≡ after [] (items_as read (items_view (drop 0 values)))
items_start read values = after-none (items_as read (items_view values))

-- past an item that gives a value
pub items_more : {A : Type 0} (read : Data → Option A) (done : List A) (values : List Value) (place : ℕ) (item : Value) (first : A)
    → place < length values → item ≡ get_or values place item → read (view item) ≡ Some first
    → after done (items_as read (items_view (drop place values)))
    ≡ after (done ++ first ∷ []) (items_as read (items_view (drop (place + 1) values)))
items_more read done values place item first below there found =
    let e = items_view-drop values place item below in
    rw (e, ← there, found) (after-one done first (items_as read (items_view (drop (place + 1) values))))

-- at an item that gives none
pub items_stop : {A : Type 0} (read : Data → Option A) (done : List A) (values : List Value) (place : ℕ) (item : Value)
    → place < length values → item ≡ get_or values place item → read (view item) ≡ None
    → after done (items_as read (items_view (drop place values))) ≡ None
items_stop read done values place item below there found =
    let e = items_view-drop values place item below in
    rw (e, ← there, found) refl

-- past the last item
pub items_end : {A : Type 0} (read : Data → Option A) (done : List A) (values : List Value) (place : ℕ)
    → length values ≤ place → after done (items_as read (items_view (drop place values))) ≡ Some done
items_end read done values place past = rw (drop_all place values past, append-nil) refl

-- an error that an item's reading gave is that of the whole
pub reads_error : {A B : Type 0} (fault : ReadError) (one : Option B) (all : Option A) → Reads {A = B} (Err fault) one
    → (one ≡ None → all ≡ None) → Reads {A = A} (Err fault) all
reads_error Malformed one all found none = none found
reads_error NoMemory one all found none = tt

-- the keys of a map pass where each of them does
pub keys_pass-keys : (test : List ℕ → Bool) (entries : List Entry)
    → keys_pass test (members_view entries) ≡ list_all (λ key. test (string_bytes key)) (keys_of entries)
keys_pass-keys test [] = refl
keys_pass-keys test (entry ∷ entries) = ap (λ others. test (string_bytes entry.0) && others) (keys_pass-keys test entries)

pub ruleset keys = (keys_pass-keys)
