-- The table of which one column was sealed or opened: its rows, and that it is one of its job.
use Rattle.std.proofs.Common.{◌≡◌, ◌⊎◌, inl, inr, refl, sym, ◌∙◌, ap, subst, ℕ, zero, suc, ◌+◌, ◌^◌, ◌<◌, ◌≤◌, ◌==◌, Bool, true, false, not, ◌&&◌, ◌||◌, IsTrue, List, [], ◌∷◌, length, map, set, get_or, All, Option, Some, None, IfSome, option_map, slice_get, arith}
use Rattle.std.specs.Prelude.{IsSome, if◌then◌else◌, option_and_then}
use Rattle.std.specs.List.{range_with_len, enumerate_from}
use Rattle.std.proofs.lemmas.Bool.{cases_eq, cases_lt, not-true}
use Rattle.std.proofs.lemmas.Nat.Bits.{bit_at_above}
use Rattle.std.proofs.lemmas.Option.{same_Some}
use Rattle.std.specs.Option.{option_map_or}
use Rattle.std.proofs.lemmas.List.{get_or-set_same, get_or-set_other, length-map, map-set, set-set}
use Rattle.std.proofs.lemmas.List.Elements.{All-set}
use Rattle.base_laws.proofs.BoolLaws.{both}
use Rattle.base_laws.proofs.SetLaws.{has-bit_or, has-single_same, has-single_other, has-without}
use Rattle.base_laws.specs.Sets.{has, with_member, without}
use Rattle.extended_plan.specs.declared.state.State.{State}
use Rattle.extended_plan.specs.Setting.{Setting, known_at}
use Rattle.key_clusters.specs.declared.assigned.Clusters.{Clusters}
use Rattle.key_clusters.specs.Keys.{scheme_at}
use Rattle.mq_base.specs.declared.ids.AttrId.{AttrId}
use Rattle.mq_base.specs.declared.ids.NodeId.{NodeId}
use Rattle.mq_base.specs.declared.plan.Step.TheVariants as step
use Rattle.mq_base.specs.declared.table.Scheme.{Scheme}
use Rattle.mq_base.specs.declared.value.Value.{Value}
use Rattle.mq_base.specs.declared.value.ValueType.{ValueType}
use Rattle.mq_base.specs.BoundQuery.{type_at}
use Rattle.mq_base.specs.Value.{IsCell}
use Rattle.provider_engine.specs.declared.held.Held.{Held}
use Rattle.column_table.specs.Cells.{Cell, Plain, Sealed, Seals}
use Rattle.column_table.specs.Columns as columns_shown
use Rattle.column_table.specs.Columns.{Shown, cell_at, column_at, count_at, counts_have, has_rows, is_sealed, row_at, rows_in, shown_columns}
use Rattle.provider_engine.specs.OfJob.{IsBeforeGroup, IsColumnAt, IsColumnOpened, IsOfJob, IsOpenedBy, IsShownAt, StandsFor}
use Rattle.provider_engine.specs.Held.{table_of}
use Rattle.provider_engine.specs.Opening.{listed_key, seals_of}
use Rattle.provider_engine.specs.Run.{opened_cell, opened_row, sealed_cell, sealed_row, sealed_rows}
use Rattle.provider_engine.specs.Steps.{state_after}
use Rattle.provider_engine.specs.inside.Sealing.{ColumnOpens, IsLocked, IsLockedAt, IsOpenedAt, locked_column, plain_column, with_column}
use Rattle.column_table.proofs.ColumnLaws.{column_is, filled_at}
use Rattle.provider_engine.proofs.OpenLaws.{opened_is}
use Rattle.relation_profile.specs.declared.view.View.{View}
use Rattle.sealed_column.specs.declared.column.AnyColumn.{AnyColumn}
use Rattle.sealed_column.specs.Cells.{OpenTo}
use Rattle.sealed_column.specs.Seal.{Opens, seal, sealed_from}

-- ---- columns with one at a place

pub placed_same : (columns : List (Option Shown)) (a : ℕ) (c : Shown) → a < length columns → column_at (with_column columns a c) a ≡ Some c
placed_same columns a c below = get_or-set_same columns a (Some c) None below

pub placed_other : (columns : List (Option Shown)) (a b : ℕ) (c : Shown) → (b ≡ a → ⊥)
    → column_at (with_column columns a c) b ≡ column_at columns b
placed_other columns a b c differs = get_or-set_other columns a b (Some c) None differs

-- what holds of the new column and of the other ones holds of each
pub placed_each : (P Q : ℕ → Option Shown → Type 0) (columns : List (Option Shown)) (a : ℕ) (c : Shown) → a < length columns
    → ((b : ℕ) → (b ≡ a → ⊥) → (o : Option Shown) → P b o → Q b o) → Q a (Some c) → (b : ℕ) → P b (column_at columns b)
    → Q b (column_at (with_column columns a c) b)
placed_each P Q columns a c below others new b holds = by_place (cases_eq b a)
  where
    by_place : (b ≡ a) ⊎ (b ≡ a → ⊥) → Q b (column_at (with_column columns a c) b)
    by_place (inl same) =
        subst (λ i. Q i (column_at (with_column columns a c) i)) (sym same) (subst (Q a) (sym (placed_same columns a c below)) new)
    by_place (inr differs) =
        subst (Q b) (sym (placed_other columns a b c differs)) (others b differs (column_at columns b) holds)

-- ---- rows whose cells were changed

pub numbered : {X Y : Type 0} (f : ℕ → X → Y) (g : ℕ → X) (n k : ℕ)
    → map (λ (p : ℕ × X). f p.0 p.1) (enumerate_from k (map g (range_with_len k n))) ≡ map (λ i. f i (g i)) (range_with_len k n)
numbered f g zero k = refl
numbered f g (suc n) k = ap (λ ys. f k (g k) ∷ ys) (numbered f g n (k + 1))

pub twice : {X Y : Type 0} (f : X → Y) (g : ℕ → X) (n k : ℕ) → map f (map g (range_with_len k n)) ≡ map (λ i. f (g i)) (range_with_len k n)
twice f g zero k = refl
twice f g (suc n) k = ap (λ ys. f (g k) ∷ ys) (twice f g n (k + 1))

pub alike : {Y : Type 0} (f g : ℕ → Y) → ((i : ℕ) → f i ≡ g i) → (n k : ℕ) → map f (range_with_len k n) ≡ map g (range_with_len k n)
alike f g same zero k = refl
alike f g same (suc n) k = λ j. same k j ∷ alike f g same n (k + 1) j

-- rows with each cell sealed, at its row's place, are those that sealing gives
pub rows_sealed : (seals : Seals) (members place : ℕ) (columns after : List (Option Shown)) (counts : Option (List ℕ)) (rows : ℕ)
    → ((i b : ℕ) → cell_at after i b
    ≡ option_map (λ c. if has members b then sealed_cell seals place i b c else c) (cell_at columns i b))
    → rows_in after counts rows ≡ sealed_rows seals members place (rows_in columns counts rows)
unfolding rows_in
rows_sealed seals members place columns after counts rows cells =
    alike (row_at after counts) (λ i. sealed_row seals members place i (row_at columns counts i))
    (λ i j. record { cell = λ b. cells i b j; count = count_at counts i }) rows 0
    ∙ sym (numbered (λ i r. sealed_row seals members place i r) (row_at columns counts) rows 0)

-- and rows with each cell opened those that opening gives
pub rows_opened : (seals : Seals) (members : ℕ) (columns after : List (Option Shown)) (counts : Option (List ℕ)) (rows : ℕ)
    → ((i b : ℕ) → cell_at after i b ≡ option_map (λ c. if has members b then opened_cell seals b c else c) (cell_at columns i b))
    → rows_in after counts rows ≡ map (opened_row seals members) (rows_in columns counts rows)
unfolding rows_in
rows_opened seals members columns after counts rows cells =
    alike (row_at after counts) (λ i. opened_row seals members (row_at columns counts i))
    (λ i j. record { cell = λ b. cells i b j; count = count_at counts i }) rows 0
    ∙ sym (twice (opened_row seals members) (row_at columns counts) rows 0)

-- ---- cells of one column

-- the cells of a column at a row
abbrev cell_of : Option Shown → ℕ → Option Cell
cell_of o i = option_and_then (λ (c : Shown). slice_get c.cells i) o

pub unchanged : (o : Option Cell) → o ≡ option_map (λ (c : Cell). c) o
unchanged None = refl
unchanged (Some c) = refl

-- cells of a table of which one column was changed
cells_changed : (change : ℕ → ℕ → Cell → Cell) (columns : List (Option Shown)) (a : ℕ) (c new : Shown) → a < length columns
    → column_at columns a ≡ Some c → ((i : ℕ) → slice_get new.cells i ≡ option_map (change i a) (slice_get c.cells i)) → (i b : ℕ)
    → cell_at (with_column columns a new) i b ≡ option_map (λ d. if has (2 ^ a) b then change i b d else d) (cell_at columns i b)
cells_changed change columns a c new below there cells i b = by_place (cases_eq b a)
  where
    at_place : cell_at (with_column columns a new) i a ≡ option_map (λ d. if has (2 ^ a) a then change i a d else d) (cell_at columns i a)
    at_place =
        ap (λ o. cell_of o i) (placed_same columns a new below) ∙ cells i
        ∙ ap (λ o. option_map (change i a) (cell_of o i)) (sym there)
        ∙ ap (λ (t : Bool). option_map (λ d. if t then change i a d else d) (cell_at columns i a)) (sym (has-single_same a))

    by_place : (b ≡ a) ⊎ (b ≡ a → ⊥)
        → cell_at (with_column columns a new) i b ≡ option_map (λ d. if has (2 ^ a) b then change i b d else d) (cell_at columns i b)
    by_place (inl same) =
        subst (λ k. cell_at (with_column columns a new) i k
        ≡ option_map (λ d. if has (2 ^ a) k then change i k d else d) (cell_at columns i k)) (sym same) at_place
    by_place (inr differs) =
        ap (λ o. cell_of o i) (placed_other columns a b new differs) ∙ unchanged (cell_at columns i b)
        ∙ ap (λ (t : Bool). option_map (λ d. if t then change i b d else d) (cell_at columns i b)) (sym (has-single_other a b differs))

-- the sealed cell at a row
sealed_at : (scheme : Scheme) (key : List ℕ) (place : ℕ) (values : List Value) (row i k : ℕ) → row + i ≡ k
    → slice_get (map Sealed (sealed_from scheme key place row values)) i
    ≡ option_map (λ v. Sealed (seal scheme key place k v)) (slice_get values i)
sealed_at scheme key place [] row i k is = refl
sealed_at scheme key place (v ∷ values) row zero k is =
    ap (λ r. Some (Sealed (seal scheme key place r v))) (omega (arith, is))
sealed_at scheme key place (v ∷ values) row (suc i) k is = sealed_at scheme key place values (row + 1) i k (omega (arith, is))

plain_at_row : (f : Value → Cell) (g : Cell → Cell) → ((v : Value) → f v ≡ g (Plain v)) → (values : List Value) (i : ℕ)
    → option_map f (slice_get values i) ≡ option_map g (slice_get (map Plain values) i)
plain_at_row f g same [] i = refl
plain_at_row f g same (v ∷ values) zero = ap Some (same v)
plain_at_row f g same (v ∷ values) (suc i) = plain_at_row f g same values i

-- sealing a plain column seals its cells
pub locked_cells : (clusters : Clusters) (keys : List (List ℕ)) (place a : ℕ) (ty : ValueType) (values : List Value) (i : ℕ)
    → slice_get (locked_column (scheme_at clusters a) (listed_key keys a) place ty values).cells i
    ≡ option_map (sealed_cell (seals_of clusters keys) place i a) (slice_get (plain_column ty values).cells i)
locked_cells clusters keys place a ty values i =
    sealed_at (scheme_at clusters a) (listed_key keys a) place values 0 i i (omega arith)
    ∙ plain_at_row (λ v. Sealed (seal (scheme_at clusters a) (listed_key keys a) place i v))
    (sealed_cell (seals_of clusters keys) place i a) (λ v. refl) values i

-- a cell that stands for a value opens to it
stands_opened : (clusters : Clusters) (keys : List (List ℕ)) (a : ℕ) (by : Option Scheme) → by ≡ Some (scheme_at clusters a)
    → (c : Cell) (v : Value) → StandsFor by (listed_key keys a) c v → Plain v ≡ opened_cell (seals_of clusters keys) a c
stands_opened clusters keys a by sealed (Plain w) v stands = ap Plain (sym stands)
stands_opened clusters keys a None sealed (Sealed c) v stands = absurd stands
stands_opened clusters keys a (Some other) sealed (Sealed c) v stands =
    let is : other ≡ scheme_at clusters a = same_Some other (scheme_at clusters a) sealed in
    sym (ap (λ (o : Option Value). option_map_or Plain o (Sealed c)) (opened_is (scheme_at clusters a) (listed_key keys a) c v
    (subst (λ s. Opens s (listed_key keys a) c v) is stands)))

-- opening a column opens its cells
opened_cells : (by : Option Scheme) (key : List ℕ) (opening : Cell → Cell) (ty : ValueType)
    → ((c : Cell) (v : Value) → StandsFor by key c v → Plain v ≡ opening c) → (cells : List Cell) (values : List Value)
    → OpenTo (StandsFor by key) ty cells values → (i : ℕ) → slice_get (map Plain values) i ≡ option_map opening (slice_get cells i)
opened_cells by key opening ty law [] [] all i = refl
opened_cells by key opening ty law [] (v ∷ values) all i = absurd all
opened_cells by key opening ty law (c ∷ cells) [] all i = absurd all
opened_cells by key opening ty law (c ∷ cells) (v ∷ values) all zero = ap Some (law c v all.0.opened)
opened_cells by key opening ty law (c ∷ cells) (v ∷ values) all (suc i) = opened_cells by key opening ty law cells values all.1 i

-- ---- the columns' lengths

same_count : (R : Cell → Value → Type 0) (ty : ValueType) (cells : List Cell) (values : List Value) → OpenTo R ty cells values
    → length cells ≡ length values
same_count R ty [] [] all = refl
same_count R ty [] (v ∷ values) all = absurd all
same_count R ty (c ∷ cells) [] all = absurd all
same_count R ty (c ∷ cells) (v ∷ values) all = ap suc (same_count R ty cells values all.1)

-- a sealed column is as long as its values
pub locked_length : (values : List Value) (scheme : Scheme) (key : List ℕ) (place row : ℕ)
    → length (map Sealed (sealed_from scheme key place row values)) ≡ length values
locked_length [] scheme key place row = refl
locked_length (v ∷ values) scheme key place row = ap suc (locked_length values scheme key place (row + 1))

-- a table has a cell for each row in a column as long as one that it has
pub as_filled : (rows : ℕ) (columns : List (Option Shown)) (a : ℕ) (c new : Shown) → All (λ o. IsTrue (has_rows rows o)) columns
    → column_at columns a ≡ Some c → length new.cells ≡ length c.cells → All (λ o. IsTrue (has_rows rows o)) (with_column columns a new)
as_filled rows columns a c new filled there long =
    All-set (λ o. IsTrue (has_rows rows o)) columns a (Some new)
    (ap (λ n. n == rows) long ∙ subst (λ o. IsTrue (has_rows rows o)) there (filled_at rows columns filled a)) filled

pub filled_locked : (rows : ℕ) (columns : List (Option Shown)) (a : ℕ) (scheme : Scheme) (key : List ℕ) (place : ℕ) (ty : ValueType)
    (values : List Value) (new : Shown) → All (λ o. IsTrue (has_rows rows o)) columns → column_at columns a ≡ Some (plain_column ty values)
    → IsLocked scheme key place ty values new → All (λ o. IsTrue (has_rows rows o)) (with_column columns a new)
filled_locked rows columns a scheme key place ty values new filled there locked =
    as_filled rows columns a (plain_column ty values) new filled there
    (ap (λ (c : Shown). length c.cells) locked.sealed ∙ locked_length values scheme key place 0 ∙ sym (length-map values Plain))

pub filled_opened : (rows : ℕ) (columns : List (Option Shown)) (a : ℕ) (key : List ℕ) (c : Shown) (values : List Value)
    → All (λ o. IsTrue (has_rows rows o)) columns → column_at columns a ≡ Some c → ColumnOpens key c values
    → All (λ o. IsTrue (has_rows rows o)) (with_column columns a (plain_column c.ty values))
filled_opened rows columns a key c values filled there opens =
    as_filled rows columns a c (plain_column c.ty values) filled there
    (length-map values Plain ∙ sym (same_count (StandsFor c.scheme key) c.ty c.cells values opens))

-- ---- the views before and after

-- an attribute was visible plain, and is sealed now
pub record IsEncryption (visible before after a : ℕ) : Type 0 where
  pub seen : has visible a ≡ true
  pub plain : has before a ≡ false
  pub sealed : has after a ≡ true
  pub others : (b : ℕ) → (b ≡ a → ⊥) → has after b ≡ has before b

-- an attribute was visible sealed, and is plain now
pub record IsDecryption (before after a : ℕ) : Type 0 where
  pub sealed : has before a ≡ true
  pub plain : has after a ≡ false
  pub others : (b : ℕ) → (b ≡ a → ⊥) → has after b ≡ has before b

abbrev enc_of : Option State → ℕ
enc_of None = 0
enc_of (Some st) = st.view.enc.0

or_false : (b : Bool) → (b || false) ≡ b
or_false true = refl
or_false false = refl

and_true : (b : Bool) → (b && true) ≡ b
and_true true = refl
and_true false = refl

or_true : (b : Bool) → (b || true) ≡ true
or_true true = refl
or_true false = refl

and_false : (b : Bool) → (b && false) ≡ false
and_false true = refl
and_false false = refl

encrypted : (visible before a : ℕ) → has (without visible before) a ≡ true → IsEncryption visible before (with_member before a) a
encrypted visible before a runs =
    let parts = both (has visible a) (not (has before a)) (sym (has-without visible before a) ∙ runs) in
    record {
      seen = parts.0;
      plain = not-true (has before a) parts.1;
      sealed = has-bit_or before (2 ^ a) a ∙ ap (λ b. has before a || b) (has-single_same a) ∙ or_true (has before a);
      others = λ b differs. has-bit_or before (2 ^ a) b ∙ ap (λ t. has before b || t) (has-single_other a b differs) ∙ or_false (has before b);
    }

decrypted : (before a : ℕ) → has before a ≡ true → IsDecryption before (without before (2 ^ a)) a
decrypted before a runs = record {
  sealed = runs;
  plain = has-without before (2 ^ a) a ∙ ap (λ b. has before a && not b) (has-single_same a) ∙ and_false (has before a);
  others = λ b differs.
      has-without before (2 ^ a) b ∙ ap (λ t. has before b && not t) (has-single_other a b differs) ∙ and_true (has before b);
}

-- what a runnable encryption makes of a state
pub state_encrypted : (s : Setting) (from : NodeId) (a : AttrId) (st after : State) → state_after s from (step.Enc a) st ≡ Some after
    → IsEncryption (known_at s from.0).visible.0 st.view.enc.0 after.view.enc.0 a.0
state_encrypted s from a st after is = by_test (has (without (known_at s from.0).visible.0 st.view.enc.0) a.0) refl
  where
    by_test : (b : Bool) → has (without (known_at s from.0).visible.0 st.view.enc.0) a.0 ≡ b
        → IsEncryption (known_at s from.0).visible.0 st.view.enc.0 after.view.enc.0 a.0
    by_test true runs =
        let enc : with_member st.view.enc.0 a.0 ≡ after.view.enc.0 = rw runs at (ap enc_of is) in
        subst (λ e. IsEncryption (known_at s from.0).visible.0 st.view.enc.0 e a.0) enc
        (encrypted (known_at s from.0).visible.0 st.view.enc.0 a.0 runs)
    by_test false runs = let none : None ≡ Some after = rw runs at is in cc

-- an attribute that can be encrypted is visible
pub enc_visible : (s : Setting) (from : NodeId) (a : AttrId) (st : State) → IsSome (state_after s from (step.Enc a) st)
    → has (known_at s from.0).visible.0 a.0 ≡ true
enc_visible s from a st runs = by_test (has (without (known_at s from.0).visible.0 st.view.enc.0) a.0) refl
  where
    by_test : (b : Bool) → has (without (known_at s from.0).visible.0 st.view.enc.0) a.0 ≡ b → has (known_at s from.0).visible.0 a.0 ≡ true
    by_test true plain = (encrypted (known_at s from.0).visible.0 st.view.enc.0 a.0 plain).seen
    by_test false sealed = let none : false ≡ true = rw sealed at runs in cc

-- and a runnable decryption
pub state_decrypted : (s : Setting) (from : NodeId) (a : AttrId) (st after : State) → state_after s from (step.Dec a) st ≡ Some after
    → IsDecryption st.view.enc.0 after.view.enc.0 a.0
state_decrypted s from a st after is = by_test (has st.view.enc.0 a.0) refl
  where
    by_test : (b : Bool) → has st.view.enc.0 a.0 ≡ b → IsDecryption st.view.enc.0 after.view.enc.0 a.0
    by_test true runs =
        let enc : without st.view.enc.0 (2 ^ a.0) ≡ after.view.enc.0 = rw runs at (ap enc_of is) in
        subst (λ e. IsDecryption st.view.enc.0 e a.0) enc (decrypted st.view.enc.0 a.0 runs)
    by_test false runs = let none : None ≡ Some after = rw runs at is in cc

-- ---- columns of a job

-- a column of which it is still said as before whether it is sealed stays one of the job
column_kept : (s : Setting) (n : ℕ) (before after : View) (b : ℕ) (o : Option Shown) → has after.enc.0 b ≡ has before.enc.0 b
    → IsColumnAt s n before b o → IsColumnAt s n after b o
column_kept s n before after b None same at = at
column_kept s n before after b (Some c) same at = record {
  visible = at.visible;
  typed = at.typed;
  sealed = at.sealed ∙ ap (λ (t : Bool). if t then Some (scheme_at s.basis.clusters b) else None) (sym same);
}

pub columns_changed : (s : Setting) (n : ℕ) (before after : View) (columns : List (Option Shown)) (a : ℕ) (new : Shown)
    → a < length columns → ((b : ℕ) → (b ≡ a → ⊥) → has after.enc.0 b ≡ has before.enc.0 b)
    → ((b : ℕ) → b < 64 → IsColumnAt s n before b (column_at columns b)) → IsShownAt s n after a new → (b : ℕ) → b < 64
    → IsColumnAt s n after b (column_at (with_column columns a new) b)
columns_changed s n before after columns a new below others stand shown b small =
    placed_each (IsColumnAt s n before) (IsColumnAt s n after) columns a new below
    (λ i differs o at. column_kept s n before after i o (others i differs) at) shown b (stand b small)

pub opened_changed : (s : Setting) (keys : List (List ℕ)) (n : ℕ) (columns : List (Option Shown)) (a : ℕ) (new : Shown)
    → a < length columns → ((b : ℕ) → b < 64 → IfSome (column_at columns b) (IsColumnOpened s keys n b)) → IsColumnOpened s keys n a new
    → (b : ℕ) → b < 64 → IfSome (column_at (with_column columns a new) b) (IsColumnOpened s keys n b)
opened_changed s keys n columns a new below stand opened b small =
    placed_each (λ i o. IfSome o (IsColumnOpened s keys n i)) (λ i o. IfSome o (IsColumnOpened s keys n i)) columns a new below
    (λ i differs o at. at) opened b (stand b small)

-- a column of a job, with the values that its cells stand for
pub record IsHeldAt (s : Setting) (keys : List (List ℕ)) (n : ℕ) (view : View) (a : ℕ) (o : Option Shown) : Type 0 where
  pub column : Shown
  pub there : o ≡ Some column
  pub shown : IsShownAt s n view a column
  pub opened : IsColumnOpened s keys n a column

pub held_at : (s : Setting) (keys : List (List ℕ)) (n : ℕ) (view : View) (a : ℕ) (o : Option Shown) → has (known_at s n).visible.0 a ≡ true
    → IsColumnAt s n view a o → IfSome o (IsColumnOpened s keys n a) → IsHeldAt s keys n view a o
held_at s keys n view a None visible at opened = let bad : true ≡ false = sym visible ∙ at in cc
held_at s keys n view a (Some c) visible at opened = record { column = c; there = refl; shown = at; opened = opened }

plain_cells : (ty : ValueType) (key : List ℕ) (cells : List Cell) (values : List Value) → OpenTo (StandsFor None key) ty cells values
    → cells ≡ map Plain values
plain_cells ty key [] [] all = refl
plain_cells ty key [] (v ∷ values) all = absurd all
plain_cells ty key (c ∷ cells) [] all = absurd all
plain_cells ty key (Plain w ∷ cells) (v ∷ values) all = λ j. Plain (all.0.opened j) ∷ plain_cells ty key cells values all.1 j
plain_cells ty key (Sealed c ∷ cells) (v ∷ values) all = absurd all.0.opened

-- a column that is not sealed shows its values
pub plain_is : (key : List ℕ) (c : Shown) (values : List Value) → c.scheme ≡ None → ColumnOpens key c values → c ≡ plain_column c.ty values
plain_is key c values plain opens =
    let cells : c.cells ≡ map Plain values =
    plain_cells c.ty key c.cells values (subst (λ by. OpenTo (StandsFor by key) c.ty c.cells values) plain opens) in
    λ j. record { scheme = plain j; ty = c.ty; cells = cells j }

plain_opens : (ty : ValueType) (key : List ℕ) (by : Option Scheme) (other : Option Scheme) (cells : List Cell) (values : List Value)
    → OpenTo (StandsFor by key) ty cells values → OpenTo (StandsFor other key) ty (map Plain values) values
plain_opens ty key by other [] [] all = tt
plain_opens ty key by other [] (v ∷ values) all = absurd all
plain_opens ty key by other (c ∷ cells) [] all = absurd all
plain_opens ty key by other (c ∷ cells) (v ∷ values) all =
    (record { typed = all.0.typed; opened = refl }, plain_opens ty key by other cells values all.1)

-- a member of a set of 64 is below 64
pub member_small : (members a : ℕ) → members < 2 ^ 64 → has members a ≡ true → a < 64
member_small members a few inside = by_order (cases_lt a 64)
  where
    by_order : (a < 64) ⊎ (64 ≤ a) → a < 64
    by_order (inl below) = below
    by_order (inr above) =
        let out : has members a ≡ false = ap (λ b. b == 1) (bit_at_above members 64 a few above) in
        let bad : true ≡ false = sym inside ∙ out in cc

-- ---- one column

locked_opens : (scheme : Scheme) (key : List ℕ) (ty : ValueType) (cells : List (List ℕ)) (values : List Value)
    → OpenTo (Opens scheme key) ty cells values → OpenTo (StandsFor (Some scheme) key) ty (map Sealed cells) values
locked_opens scheme key ty [] [] all = tt
locked_opens scheme key ty [] (v ∷ values) all = absurd all
locked_opens scheme key ty (c ∷ cells) [] all = absurd all
locked_opens scheme key ty (c ∷ cells) (v ∷ values) all =
    (record { typed = all.0.typed; opened = all.0.opened }, locked_opens scheme key ty cells values all.1)

opens_locked : (scheme : Scheme) (key : List ℕ) (ty : ValueType) (cells : List (List ℕ)) (values : List Value)
    → OpenTo (StandsFor (Some scheme) key) ty (map Sealed cells) values → OpenTo (Opens scheme key) ty cells values
opens_locked scheme key ty [] [] all = tt
opens_locked scheme key ty [] (v ∷ values) all = absurd all
opens_locked scheme key ty (c ∷ cells) [] all = absurd all
opens_locked scheme key ty (c ∷ cells) (v ∷ values) all =
    (record { typed = all.0.typed; opened = all.0.opened }, opens_locked scheme key ty cells values all.1)

-- a column that was locked is the sealed one of its values
pub locked_is : (scheme other : Scheme) (key : List ℕ) (place : ℕ) (ty typed : ValueType) (values : List Value) (cells : List (List ℕ))
    → scheme ≡ other → typed ≡ ty → cells ≡ sealed_from other key place 0 values → OpenTo (Opens other key) typed cells values
    → IsLocked scheme key place ty values (record { scheme = Some other; ty = typed; cells = map Sealed cells })
locked_is scheme other key place ty typed values cells by same sealed opens = record {
  sealed = λ j. record {
    scheme = Some (sym by j);
    ty = same j;
    cells = map Sealed ((sealed ∙ ap (λ s. sealed_from s key place 0 values) (sym by)) j);
  };
  opens = locked_opens other key typed cells values opens;
}

plain_once : (values others : List Value) → map Plain values ≡ map Plain others → values ≡ others
plain_once [] [] same = refl
plain_once [] (w ∷ others) same = cc
plain_once (v ∷ values) [] same = cc
plain_once (v ∷ values) (w ∷ others) same =
    let first : v ≡ w = cc in
    let rest : map Plain values ≡ map Plain others = cc in
    λ j. first j ∷ plain_once values others rest j

-- whatever a plain column is said to be of, it was sealed as that
pub sealed_is : (scheme : Scheme) (key : List ℕ) (place : ℕ) (ty : ValueType) (cells : List Value) (new : Shown)
    → IsLocked scheme key place ty cells new → (other : ValueType) (values : List Value)
    → plain_column ty cells ≡ plain_column other values → IsLocked scheme key place other values new
sealed_is scheme key place ty cells new locked other values same =
    let typed : ty ≡ other = ap (λ (c : Shown). c.ty) same in
    let valued : cells ≡ values = plain_once cells values (ap (λ (c : Shown). c.cells) same) in
    subst (λ vs. IsLocked scheme key place other vs new) valued (subst (λ t. IsLocked scheme key place t cells new) typed locked)

-- a plain column shows the values that it opens to
pub clear_is : (key : List ℕ) (ty : ValueType) (cells values : List Value) → ColumnOpens key (plain_column ty cells) values
    → plain_column ty cells ≡ plain_column ty values
clear_is key ty cells values opens = plain_is key (plain_column ty cells) values refl opens

-- a column that was opened shows the values that it opened to
pub opened_shows : (scheme : Scheme) (key : List ℕ) (ty typed : ValueType) (cells : List (List ℕ)) (found : List Value) → typed ≡ ty
    → ((values : List Value) → OpenTo (Opens scheme key) ty cells values → found ≡ values) → (values : List Value)
    → ColumnOpens key (record { scheme = Some scheme; ty = ty; cells = map Sealed cells }) values
    → plain_column typed found ≡ plain_column ty values
opened_shows scheme key ty typed cells found same opened values opens =
    let valued = opened values (opens_locked scheme key ty cells values opens) in
    λ j. plain_column (same j) (valued j)

-- ---- a column taken out of its place and put there again

set_there : {X : Type 0} (xs : List X) (i : ℕ) (x d : X) → i < length xs → x ≡ get_or xs i d → set xs i x ≡ xs
set_there [] i x d below is = absurd (omega (arith, below))
set_there (z ∷ xs) zero x d below is = ap (λ y. y ∷ xs) is
set_there (z ∷ xs) (suc i) x d below is = ap (λ ys. z ∷ ys) (set_there xs i x d (omega (arith, below)) is)

-- it is as if nothing had been done where the same column is put there
pub put_back : (columns : List (Option AnyColumn)) (i a : ℕ) (old hole : Option AnyColumn) (column same : AnyColumn) → i ≡ a
    → a < length columns → old ≡ get_or columns i old → Some column ≡ old → same ≡ column
    → set (set columns i hole) i (Some same) ≡ columns
put_back columns i a old hole column same at below read taken is =
    set-set columns i hole (Some same)
    ∙ set_there columns i (Some same) old (subst (λ k. k < length columns) (sym at) below) (ap (λ c. Some c) is ∙ taken ∙ read)

pub put_locked : (scheme : Scheme) (key : List ℕ) (place : ℕ) (columns : List (Option AnyColumn)) (i a : ℕ) (old hole : Option AnyColumn)
    (column made : AnyColumn) → i ≡ a → a < length columns → old ≡ get_or columns i old → Some column ≡ old
    → ((ty : ValueType) (values : List Value) → columns_shown.shown column ≡ plain_column ty values
    → IsLocked scheme key place ty values (columns_shown.shown made))
    → (ty : ValueType) (values : List Value) → column_at (shown_columns columns) a ≡ Some (plain_column ty values)
    → IsLockedAt scheme key place ty values a (shown_columns columns) (shown_columns (set (set columns i hole) i (Some made)))
put_locked scheme key place columns i a old hole column made at below read taken locked ty values plain = record {
  column = columns_shown.shown made;
  locked = locked ty values (same_Some (columns_shown.shown column) (plain_column ty values)
      (ap (option_map columns_shown.shown) taken ∙ sym (column_is columns a old old below (read ∙ ap (λ k. get_or columns k old) at)) ∙ plain));
  within = rw (length-map columns (option_map columns_shown.shown)) below;
  there = ap shown_columns (set-set columns i hole (Some made)) ∙ map-set (option_map columns_shown.shown) columns i (Some made)
      ∙ ap (λ k. with_column (shown_columns columns) k (columns_shown.shown made)) at;
}

pub put_opened : (key : List ℕ) (columns : List (Option AnyColumn)) (i a : ℕ) (old hole : Option AnyColumn) (column made : AnyColumn)
    → i ≡ a → a < length columns → old ≡ get_or columns i old → Some column ≡ old
    → ((values : List Value) → ColumnOpens key (columns_shown.shown column) values
    → columns_shown.shown made ≡ plain_column (columns_shown.shown column).ty values)
    → (c : Shown) (values : List Value) → column_at (shown_columns columns) a ≡ Some c → ColumnOpens key c values
    → IsOpenedAt c.ty values a (shown_columns columns) (shown_columns (set (set columns i hole) i (Some made)))
put_opened key columns i a old hole column made at below read taken opened c values there opens =
    let same : columns_shown.shown column ≡ c = same_Some (columns_shown.shown column) c
    (ap (option_map columns_shown.shown) taken
    ∙ sym (column_is columns a old old below (read ∙ ap (λ k. get_or columns k old) at)) ∙ there) in
    let made_is : columns_shown.shown made ≡ plain_column c.ty values =
    subst (λ (d : Shown). columns_shown.shown made ≡ plain_column d.ty values) same
    (opened values (subst (λ d. ColumnOpens key d values) (sym same) opens)) in
    record {
      within = rw (length-map columns (option_map columns_shown.shown)) below;
      there = ap shown_columns (set-set columns i hole (Some made)) ∙ map-set (option_map columns_shown.shown) columns i (Some made)
          ∙ ap (λ k. with_column (shown_columns columns) k (columns_shown.shown made)) at
          ∙ ap (with_column (shown_columns columns) a) made_is;
    }

-- ---- the table after an encryption

-- a plain column of a job
pub record IsPlainAt (s : Setting) (keys : List (List ℕ)) (n a : ℕ) (o : Option Shown) : Type 0 where
  pub ty : ValueType
  pub values : List Value
  pub there : o ≡ Some (plain_column ty values)
  pub visible : has (known_at s n).visible.0 a ≡ true
  pub typed : type_at s.policy.schema a ≡ Some ty
  pub small : IsBeforeGroup s n → All (IsCell ty) values

plain_at : (s : Setting) (keys : List (List ℕ)) (n : ℕ) (view : View) (a : ℕ) (o : Option Shown) → has view.enc.0 a ≡ false
    → IsHeldAt s keys n view a o → IsPlainAt s keys n a o
plain_at s keys n view a o plain held =
    let none : held.column.scheme ≡ None =
    held.shown.sealed ∙ ap (λ (t : Bool). if t then Some (scheme_at s.basis.clusters a) else None) plain in
    record {
      ty = held.column.ty;
      values = held.opened.values;
      there = held.there ∙ ap (λ c. Some c) (plain_is (listed_key keys a) held.column held.opened.values none held.opened.opens);
      visible = held.shown.visible;
      typed = held.shown.typed;
      small = held.opened.small;
    }

-- what there is of a table of which one column was sealed
pub record IsSealedTable (s : Setting) (keys : List (List ℕ)) (h : Held) (a : AttrId) (place : ℕ) (after : State)
    (columns : List (Option Shown)) : Type 0 where
  pub filled : All (λ o. IsTrue (has_rows h.table.rows o)) columns
  pub column : (b : ℕ) → b < 64 → IsColumnAt s h.node.0 after.view b (column_at columns b)
  pub opened : (b : ℕ) → b < 64 → IfSome (column_at columns b) (IsColumnOpened s keys h.node.0 b)
  pub rows : rows_in columns h.table.counts h.table.rows ≡ sealed_rows (seals_of s.basis.clusters keys) (2 ^ a.0) place (table_of h)

pub table_sealed : (s : Setting) (keys : List (List ℕ)) (h : Held) (a : AttrId) (place : ℕ) (after : State) (scheme : Scheme) (key : List ℕ)
    (columns : List (Option Shown)) → IsOfJob s h → IsOpenedBy s keys h → a.0 < 64
    → state_after s h.node (step.Enc a) h.state ≡ Some after → scheme ≡ scheme_at s.basis.clusters a.0 → key ≡ listed_key keys a.0
    → ((ty : ValueType) (values : List Value) → column_at (shown_columns h.table.columns) a.0 ≡ Some (plain_column ty values)
    → IsLockedAt scheme key place ty values a.0 (shown_columns h.table.columns) columns)
    → IsSealedTable s keys h a place after columns
table_sealed s keys h a place after scheme key columns of_job opened small runs scheme_is key_is locked =
    subst (IsSealedTable s keys h a place after) (sym at.there) (record {
      filled = filled_locked h.table.rows before a.0 scheme key place plain.ty plain.values at.column h.table.filled plain.there at.locked;
      column = columns_changed s h.node.0 h.state.view after.view before a.0 at.column at.within enc.others of_job.column (record {
        visible = plain.visible;
        typed = plain.typed ∙ ap (λ (c : Shown). Some c.ty) (sym at.locked.sealed);
        sealed = ap (λ (c : Shown). c.scheme) at.locked.sealed ∙ ap (λ x. Some x) scheme_is
            ∙ ap (λ (t : Bool). if t then Some (scheme_at s.basis.clusters a.0) else None) (sym enc.sealed);
      });
      opened = opened_changed s keys h.node.0 before a.0 at.column at.within opened (record {
        values = plain.values;
        opens = subst (λ k. ColumnOpens k at.column plain.values) key_is at.locked.opens;
        small = subst (λ (c : Shown). IsBeforeGroup s h.node.0 → All (IsCell c.ty) plain.values) (sym at.locked.sealed) plain.small;
      });
      rows = rows_sealed (seals_of s.basis.clusters keys) (2 ^ a.0) place before (with_column before a.0 at.column) h.table.counts h.table.rows
          (cells_changed (λ i b. sealed_cell (seals_of s.basis.clusters keys) place i b) before a.0 (plain_column plain.ty plain.values)
          at.column at.within plain.there
          (λ i. ap (λ (c : Shown). slice_get c.cells i) same ∙ locked_cells s.basis.clusters keys place a.0 plain.ty plain.values i));
    })
  where
    before : List (Option Shown)
    before = shown_columns h.table.columns

    enc : IsEncryption (known_at s h.node.0).visible.0 h.state.view.enc.0 after.view.enc.0 a.0
    enc = state_encrypted s h.node a h.state after runs

    plain : IsPlainAt s keys h.node.0 a.0 (column_at before a.0)
    plain = plain_at s keys h.node.0 h.state.view a.0 (column_at before a.0) enc.plain
        (held_at s keys h.node.0 h.state.view a.0 (column_at before a.0) enc.seen (of_job.column a.0 small) (opened a.0 small))

    at : IsLockedAt scheme key place plain.ty plain.values a.0 before columns
    at = locked plain.ty plain.values plain.there

    same : at.column ≡ locked_column (scheme_at s.basis.clusters a.0) (listed_key keys a.0) place plain.ty plain.values
    same = at.locked.sealed ∙ (λ j. locked_column (scheme_is j) (key_is j) place plain.ty plain.values)

-- ---- the table after a decryption

-- what there is of a table of which one column was opened
pub record IsOpenedTable (s : Setting) (keys : List (List ℕ)) (h : Held) (a : AttrId) (after : State) (columns : List (Option Shown))
    : Type 0 where
  pub filled : All (λ o. IsTrue (has_rows h.table.rows o)) columns
  pub column : (b : ℕ) → b < 64 → IsColumnAt s h.node.0 after.view b (column_at columns b)
  pub opened : (b : ℕ) → b < 64 → IfSome (column_at columns b) (IsColumnOpened s keys h.node.0 b)
  pub rows : rows_in columns h.table.counts h.table.rows ≡ map (opened_row (seals_of s.basis.clusters keys) (2 ^ a.0)) (table_of h)

pub table_opened : (s : Setting) (keys : List (List ℕ)) (h : Held) (a : AttrId) (after : State) (key : List ℕ)
    (columns : List (Option Shown)) → IsOfJob s h → IsOpenedBy s keys h → a.0 < 64
    → state_after s h.node (step.Dec a) h.state ≡ Some after → key ≡ listed_key keys a.0
    → ((c : Shown) (values : List Value) → column_at (shown_columns h.table.columns) a.0 ≡ Some c → ColumnOpens key c values
    → IsOpenedAt c.ty values a.0 (shown_columns h.table.columns) columns)
    → IsOpenedTable s keys h a after columns
table_opened s keys h a after key columns of_job opened small runs key_is opens =
    subst (IsOpenedTable s keys h a after) (sym at.there) (record {
      filled = filled_opened h.table.rows before a.0 (listed_key keys a.0) held.column held.opened.values h.table.filled held.there
          held.opened.opens;
      column = columns_changed s h.node.0 h.state.view after.view before a.0 new at.within dec.others of_job.column (record {
        visible = held.shown.visible;
        typed = held.shown.typed;
        sealed = ap (λ (t : Bool). if t then Some (scheme_at s.basis.clusters a.0) else None) (sym dec.plain);
      });
      opened = opened_changed s keys h.node.0 before a.0 new at.within opened (record {
        values = held.opened.values;
        opens = plain_opens held.column.ty (listed_key keys a.0) held.column.scheme None held.column.cells held.opened.values
            held.opened.opens;
        small = held.opened.small;
      });
      rows = rows_opened (seals_of s.basis.clusters keys) (2 ^ a.0) before (with_column before a.0 new) h.table.counts h.table.rows
          (cells_changed (λ i b. opened_cell (seals_of s.basis.clusters keys) b) before a.0 held.column new at.within held.there
          (opened_cells held.column.scheme (listed_key keys a.0) (opened_cell (seals_of s.basis.clusters keys) a.0) held.column.ty
          (stands_opened s.basis.clusters keys a.0 held.column.scheme
          (held.shown.sealed ∙ ap (λ (t : Bool). if t then Some (scheme_at s.basis.clusters a.0) else None) dec.sealed))
          held.column.cells held.opened.values held.opened.opens));
    })
  where
    before : List (Option Shown)
    before = shown_columns h.table.columns

    dec : IsDecryption h.state.view.enc.0 after.view.enc.0 a.0
    dec = state_decrypted s h.node a h.state after runs

    held : IsHeldAt s keys h.node.0 h.state.view a.0 (column_at before a.0)
    held = held_at s keys h.node.0 h.state.view a.0 (column_at before a.0) (of_job.state.view.visible.member a.0 dec.sealed)
        (of_job.column a.0 small) (opened a.0 small)

    new : Shown
    new = plain_column held.column.ty held.opened.values

    at : IsOpenedAt held.column.ty held.opened.values a.0 before columns
    at = opens held.column held.opened.values held.there (subst (λ k. ColumnOpens k held.column held.opened.values) (sym key_is) held.opened.opens)
