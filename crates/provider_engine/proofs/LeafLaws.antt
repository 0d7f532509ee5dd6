-- The cells of a leaf tell the values of the rows of its table.
use Rattle.std.proofs.Common.{◌≡◌, ℕ, ◌==◌, Bool, true, false, not, cond, List, [], ◌∷◌, map, Option, Some, None, IfSome, IsSomeAnd, option_map, refl, sym, ◌∙◌, ap, subst}
use Rattle.std.proofs.lemmas.Bool.{eqb-true}
use Rattle.std.specs.List.{AllByRecursion, slice_get}
use Rattle.std.specs.Option.{option_map_or}
use Rattle.base_laws.proofs.BoolLaws.{together}
use Rattle.base_laws.proofs.SetLaws.{has-bit_and, has-empty, has-without}
use Rattle.base_laws.specs.Sets.{has}
use Rattle.mq_base.specs.declared.schema.AttrInfo.{AttrInfo}
use Rattle.mq_base.specs.declared.schema.Schema.{Schema}
use Rattle.mq_base.specs.declared.value.Value.{Value}
use Rattle.mq_base.specs.Value.{IsCell}
use Rattle.provider_engine.proofs.CellLaws.{Frame, IsValueOf, Tells, cell_sealable, cell_typed}
use Rattle.provider_engine.proofs.StepLaws.{IsSealedFrom}
use Rattle.column_table.specs.Cells.{Plain}
use Rattle.provider_engine.specs.Run.{plain_row}
use Rattle.relation_profile.specs.Profile.{Profile}
use Rattle.relation_profile.specs.Steps.{leaf_profile}
use Rattle.row_algebra.specs.Contents.{HasCells, owns}
use Rattle.row_algebra.specs.Likeness.{AreLike, BothOr, IsLike}
use Rattle.row_algebra.specs.Rows.{IsOf, RowOf, cut}
use Rattle.sealed_column.specs.Seal.{HasBytes}

-- a row of a table: its cells are of the table's attributes, of their types, and made of bytes
pub record IsRowOf (schema : Schema) (t : ℕ) (r : RowOf Value) : Type 0 where
  pub own : IsOf (owns schema t) r
  pub cells : HasCells schema t r
  pub bytes : (a : ℕ) → IfSome (r.cell a) HasBytes

pub rows_of : (schema : Schema) (t : ℕ) (rows : List (RowOf Value)) → AllByRecursion (IsOf (owns schema t)) rows
    → AllByRecursion (HasCells schema t) rows → AllByRecursion (λ r. (a : ℕ) → IfSome (r.cell a) HasBytes) rows
    → AllByRecursion (IsRowOf schema t) rows
rows_of schema t [] own cells bytes = tt
rows_of schema t (r ∷ rows) own cells bytes =
    (record { own = own.0; cells = cells.0; bytes = bytes.0 }, rows_of schema t rows own.1 cells.1 bytes.1)

-- an attribute with its information, which is of the table
pub record IsColumn (schema : Schema) (t a : ℕ) : Type 0 where
  pub info : AttrInfo
  pub found : slice_get schema.attrs a ≡ Some info
  pub table : info.table.0 ≡ t

pub column_of : (schema : Schema) (t a : ℕ) → owns schema t a ≡ true → IsColumn schema t a
column_of schema t a is = by_info (slice_get schema.attrs a) refl is
  where
    by_info : (o : Option AttrInfo) → slice_get schema.attrs a ≡ o
        → option_map_or (λ owner. owner == t) (option_map (λ (info : AttrInfo). info.table.0) o) false ≡ true → IsColumn schema t a
    by_info None found is = cc
    by_info (Some info) found is = record { info = info; found = found; table = eqb-true info.table.0 t is }

value_of : (schema : Schema) (t a : ℕ) (v : Value) (info : AttrInfo) → slice_get schema.attrs a ≡ Some info → IsCell info.ty v → HasBytes v
    → IsValueOf schema false a v
value_of schema t a v info found cell bytes = record {
  typed = ap (λ (o : Option AttrInfo). option_map (λ (i : AttrInfo). i.ty) o) found ∙ ap Some (sym (cell_typed info.ty v cell));
  sealable = cell_sealable info.ty v cell bytes;
  small = λ below. subst (λ ty. IsCell ty v) (sym (cell_typed info.ty v cell)) cell;
}

-- the profile of a leaf before what is sealed at rest
abbrev pub shown : ℕ → Profile
shown used = record { visible_plain = used; visible_encrypted = 0; implicit_plain = 0; implicit_encrypted = 0; equivalent = [] }

plain_cell : (f : Frame) (t used : ℕ) (r : RowOf Value) → IsRowOf f.schema t r → (a : ℕ) → has used a ≡ true → (o : Option Value)
    → r.cell a ≡ o → BothOr (Tells f false (shown used) a) (option_map Plain o) o
plain_cell f t used r is a inside None same = tt
plain_cell f t used r is a inside (Some v) same = by_owner (owns f.schema t a) refl
  where
    by_owner : (b : Bool) → owns f.schema t a ≡ b → Tells f false (shown used) a (Plain v) v
    by_owner false other = let h : Some v ≡ None = sym same ∙ is.own a other in cc
    by_owner true owned =
        let column = column_of f.schema t a owned in
        let cell : IsCell column.info.ty v = subst (λ o. IsSomeAnd o (IsCell column.info.ty)) same (is.cells a column.info column.found column.table) in
        let bytes : HasBytes v = subst (λ o. IfSome o HasBytes) same (is.bytes a) in
        record { shown = (inside, refl); value = value_of f.schema t a v column.info column.found cell bytes }

plain_like : (f : Frame) (t used : ℕ) (r : RowOf Value) → IsRowOf f.schema t r
    → IsLike (Tells f false (shown used)) (plain_row (cut used r)) (cut used r)
plain_like f t used r is = record { cells = λ a. by_test a (has used a) refl; count = refl }
  where
    by_test : (a : ℕ) (b : Bool) → has used a ≡ b
        → BothOr (Tells f false (shown used) a) (option_map Plain (cond b (r.cell a) None)) (cond b (r.cell a) None)
    by_test a true inside = plain_cell f t used r is a inside (r.cell a) refl
    by_test a false outside = tt

-- before anything is sealed each cell is its value
pub leaf_tells : (f : Frame) (t used : ℕ) (rows : List (RowOf Value)) → AllByRecursion (IsRowOf f.schema t) rows
    → AreLike (Tells f false (shown used)) (map (λ r. plain_row (cut used r)) rows) (map (cut used) rows)
leaf_tells f t used [] all = tt
leaf_tells f t used (r ∷ rows) all = (plain_like f t used r all.0, leaf_tells f t used rows all.1)

-- the profile of a leaf is that after its rest attributes were sealed
pub rest_sealed : (rest used : ℕ) → IsSealedFrom (shown used) rest (leaf_profile rest used)
rest_sealed rest used = record {
  outside = λ a out. record {
    plain = λ plain. has-without used rest a ∙ together _ _ plain (ap not out);
    sealed = λ (sealed : has 0 a ≡ true). let h : false ≡ true = sym (has-empty a) ∙ sealed in cc;
  };
  plain = λ a inside plain. has-bit_and used rest a ∙ together _ _ plain inside;
  sealed = λ a inside (sealed : has 0 a ≡ true). let h : false ≡ true = sym (has-empty a) ∙ sealed in cc;
}
