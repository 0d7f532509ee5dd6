-- Words for the form of a TOML file: what a tree of tables, arrays, strings and integers gives, where it has the form.
use Rattle.std.specs.Prelude.{◌≡◌, ℕ, pos, Bool, true, false, ◌&&◌, List, [], ◌∷◌, Option, Some, None, Result, Ok, Err, option_and_then, bytes_eq, if◌then◌else◌}
use Rattle.std.specs.Ordering.{int_eq}
use Rattle.std.specs.List.{list_any}
use Rattle.toml.specs.Data.{Data, integer, Items, no_items, item, Members, no_members, member, get_member, as_array}
use Rattle.toml.specs.View.{view}
use Rattle.toml.specs.declared.value.Value.{Value}
use Rattle.toml_tree.specs.declared.error.ReadError.{ReadError}
use Rattle.toml_tree.specs.declared.error.ReadError.TheVariants.{Malformed, NoMemory}

infixl 10 ◌>>=◌
-- what follows from a value, where there is one
abbrev pub ◌>>=◌ : {A B : Type 0} → Option A → (A → Option B) → Option B
o >>= f = option_and_then f o

-- whether every key of a table passes a test
abbrev pub keys_pass : (List ℕ → Bool) → Members → Bool
keys_pass test no_members = true
keys_pass test (member key value rest) = test key && keys_pass test rest

-- whether every key of a table is one of these
abbrev pub has_only : List (List ℕ) → Members → Bool
has_only keys entries = keys_pass (λ key. list_any (λ other. bytes_eq other key) keys) entries

-- what stands at a key that must stand there
abbrev pub field : {A : Type 0} → (Data → Option A) → List ℕ → Members → Option A
field read key entries = get_member key entries >>= read

-- what a value gives, or an empty list where there is no value
abbrev pub or_empty : {A : Type 0} → (Data → Option (List A)) → Option Data → Option (List A)
or_empty read None = Some []
or_empty read (Some value) = read value

-- the list at a key that may be missing, which means an empty list
abbrev pub list_field : {A : Type 0} → (Data → Option (List A)) → List ℕ → Members → Option (List A)
list_field read key entries = or_empty read (get_member key entries)

-- what each item gives
abbrev pub items_as : {A : Type 0} → (Data → Option A) → Items → Option (List A)
items_as read no_items = Some []
items_as read (item value rest) = read value >>= (λ first. items_as read rest >>= (λ others. Some (first ∷ others)))

-- the list that an array gives
abbrev pub list_as : {A : Type 0} → (Data → Option A) → Data → Option (List A)
list_as read value = as_array value >>= items_as read

-- a list with at least one item
abbrev pub filled : {A : Type 0} → List A → Option (List A)
filled [] = None
filled (first ∷ others) = Some (first ∷ others)

-- whether the value is the version that is read: the integer 1
abbrev pub is_version : Data → Bool
is_version (integer z) = int_eq z (pos 1)
is_version _ = false

-- the version
abbrev pub version_as : Data → Option (Unit {0})
version_as value = if is_version value then Some tt else None

-- a reader's answer: what the tree gives, and Malformed where it gives nothing; memory may be wanting instead
abbrev pub Reads : {A : Type 0} → Result A ReadError → Option A → Type 0
Reads (Ok value) expected = expected ≡ Some value
Reads (Err Malformed) expected = expected ≡ None
Reads (Err NoMemory) expected = Unit {0}

-- a tree that was read; memory may be wanting instead
abbrev pub ReadsTree : Result Value ReadError → Option Data → Type 0
ReadsTree (Ok tree) expected = expected ≡ Some (view tree)
ReadsTree (Err Malformed) expected = expected ≡ None
ReadsTree (Err NoMemory) expected = Unit {0}
