-- The conditions of a query without a fault: each compares an attribute with a constant of its type, or two attributes
-- of one type.
use Rattle.std.proofs.Common.{◌≡◌, true, false, List, [], length, All, Option, Some, None, refl, ap}
use Rattle.std.specs.Option.{option_map_or}
use Rattle.std.proofs.lemmas.Bool.{not-false, eqb-false, ltb-false}
use Rattle.std.proofs.lemmas.List.Elements.{All-head, All-tail}
use Rattle.base_laws.proofs.FirstLaws.{none_left}
use Rattle.mq_base.specs.declared.ids.AttrId.{AttrId}
use Rattle.mq_base.specs.declared.ids.TableId.{TableId}
use Rattle.mq_base.specs.declared.query.CmpOp.{CmpOp}
use Rattle.mq_base.specs.declared.schema.Schema.{Schema}
use Rattle.mq_base.specs.declared.value.ValueType.{ValueType}
use Rattle.mq_base.specs.declared.value.ValueType.TheVariants as type
use Rattle.mq_base.specs.BoundQuery.{type_at, IsOfTables, IsBoundCond, MayHold, HaveOneType}
use Rattle.mq_base.specs.Value.{IsCell}
use Rattle.sql_reader.specs.Syntax.{Column, Literal, Number, Text, Side, Col, Lit, Condition}
use Rattle.query_bind.specs.declared.refusal.BindCode.TheVariants.{SameAttribute, TypeMismatch, TextTooLong}
use Rattle.query_bind.specs.Lookup.{attribute_of, side_columns, condition_columns}
use Rattle.query_bind.specs.Bound.{undoubled, literal_value, attribute, bound_side, bound_condition}
use Rattle.query_bind.specs.Faults.{fault_if, literal_type, same_type, has_type, mismatches, is_long, is_long_side, is_same_attribute, condition_fault}
use Rattle.query_bind.specs.inside.Ranges.{Fits, SideFits, ConditionFits}
use Rattle.query_bind.proofs.BoundParts.{passed}

same_types : (a b : ValueType) → same_type a b ≡ true → b ≡ a
same_types type.Int type.Int same = refl
same_types type.Int type.Text same = cc
same_types type.Text type.Int same = cc
same_types type.Text type.Text same = refl

typed : (o : Option ValueType) (ty : ValueType) → option_map_or (same_type ty) o false ≡ true → o ≡ Some ty
typed None ty same = cc
typed (Some found) ty same = ap Some (same_types ty found same)

-- a column that has a type
pub type_from_test : (schema : Schema) (c : Column) (ty : ValueType) → has_type schema c ty ≡ true
    → type_at schema (attribute_of schema c) ≡ Some ty
type_from_test schema c ty has = typed (type_at schema (attribute_of schema c)) ty has

cell_of : (l : Literal) → is_long l ≡ false → Fits l → IsCell (literal_type l) (literal_value l)
cell_of (Number n) short fits = fits
cell_of (Text inside) short fits = ltb-false 120 (length (undoubled inside)) short

-- a literal that fits a column is a value that the column may hold
pub literal_held : (schema : Schema) (c : Column) (l : Literal) → has_type schema c (literal_type l) ≡ true
    → is_long l ≡ false → Fits l → MayHold schema (attribute schema c) (literal_value l)
literal_held schema c l has short fits = record {
  ty = literal_type l;
  typed = type_from_test schema c (literal_type l) has;
  cell = cell_of l short fits;
}

columns_match : (schema : Schema) (left right : Column) → mismatches schema left (Col right) ≡ false
    → HaveOneType schema (attribute schema left) (attribute schema right)
columns_match schema left right alike =
    by_type (type_at schema (attribute_of schema right)) refl (not-false _ alike)
  where
    by_type : (o : Option ValueType) → type_at schema (attribute_of schema right) ≡ o
        → option_map_or (has_type schema left) o false ≡ true
        → HaveOneType schema (attribute schema left) (attribute schema right)
    by_type None found has = cc
    by_type (Some ty) found has = record { ty = ty; left = type_from_test schema left ty has; right = found }

side_bound : (schema : Schema) (tables : List TableId) (left : Column) (op : CmpOp) (right : Side)
    → is_same_attribute schema left right ≡ false → mismatches schema left right ≡ false → is_long_side right ≡ false
    → IsOfTables schema tables (attribute schema left) → All (λ c. IsOfTables schema tables (attribute schema c)) (side_columns right)
    → SideFits right → IsBoundCond schema tables (bound_side schema (attribute schema left) op right)
side_bound schema tables left op (Col c) two alike short used others fits = (
  used,
  All-head (λ k. IsOfTables schema tables (attribute schema k)) c [] others,
  (λ same. eqb-false (attribute_of schema left) (attribute_of schema c) two (ap (λ (a : AttrId). a.0) same)),
  columns_match schema left c alike,
)
side_bound schema tables left op (Lit l) two alike short used others fits =
    (used, literal_held schema left l (not-false (has_type schema left (literal_type l)) alike) short fits)

-- a condition that passes
pub condition_bound : (schema : Schema) (tables : List TableId) (c : Condition) → condition_fault schema c ≡ None
    → All (λ k. IsOfTables schema tables (attribute schema k)) (condition_columns c) → ConditionFits c
    → IsBoundCond schema tables (bound_condition schema c)
condition_bound schema tables c none used fits =
    let first = none_left (fault_if (is_same_attribute schema c.left c.right) SameAttribute c.left.at) _ none in
    let second = none_left (fault_if (mismatches schema c.left c.right) TypeMismatch c.left.at)
    (fault_if (is_long_side c.right) TextTooLong c.left.at) first.1 in
    side_bound schema tables c.left c.op c.right
    (passed _ SameAttribute c.left.at first.0) (passed _ TypeMismatch c.left.at second.0) (passed _ TextTooLong c.left.at second.1)
    (All-head (λ k. IsOfTables schema tables (attribute schema k)) c.left (side_columns c.right) used)
    (All-tail (λ k. IsOfTables schema tables (attribute schema k)) c.left (side_columns c.right) used) fits
