-- How a record is compared with the names of a table's columns, one by one.
use Rattle.std.proofs.Common.{◌≡◌, ◌&&◌, ◌==◌, ℕ, suc, ◌+◌, ◌-◌, ◌<◌, ◌≤◌, List, [], ◌∷◌, true, false, length, drop, get_or, refl, sym, arith, nat_eq}
use Rattle.std.specs.Prelude.{filter}
use Rattle.std.specs.Cmp.Lexicographic.{pointwise}
use Rattle.std.proofs.lemmas.Bool.Decides.{nat_tests}
use Rattle.std.proofs.lemmas.List.{drop_all, drop_more, length-drop}
use Rattle.mq_base.specs.declared.schema.AttrInfo.{AttrInfo}
use Rattle.mq_base.specs.Schema.{is_column_of}
use Rattle.table_reader.specs.Faults.{field_in, is_header, names_of}
use Rattle.table_reader.specs.Records.{Fields}

-- the names of the columns of a table among the attributes from a place on
abbrev pub names_from : List AttrInfo → ℕ → ℕ → List (List ℕ)
names_from attrs t at = names_of (filter (is_column_of t) (drop at attrs))

-- an attribute of the table gives the next name
pub names_from-own : (attrs : List AttrInfo) (t at : ℕ) (d : AttrInfo) → at < length attrs → is_column_of t (get_or attrs at d) ≡ true
    → names_from attrs t at ≡ (get_or attrs at d).name ∷ names_from attrs t (at + 1)
names_from-own attrs t at d below own = rw (drop_more attrs at d below, own) refl

-- an attribute of another table gives none
pub names_from-other : (attrs : List AttrInfo) (t at : ℕ) (d : AttrInfo) → at < length attrs → is_column_of t (get_or attrs at d) ≡ false
    → names_from attrs t at ≡ names_from attrs t (at + 1)
names_from-other attrs t at d below other = rw (drop_more attrs at d below, other) refl

-- no attribute is left
pub names_from-end : (attrs : List AttrInfo) (t at : ℕ) → length attrs ≤ at → names_from attrs t at ≡ []
names_from-end attrs t at past = rw (drop_all at attrs past) refl

-- a name and a field that are compared first
pub header_next : (name : List ℕ) (names : List (List ℕ)) (fields : Fields) (at : ℕ) → at < length fields
    → is_header (name ∷ names) (drop at fields) ≡ (pointwise nat_eq name (field_in fields at) && is_header names (drop (at + 1) fields))
header_next name names fields at below = rw (drop_more fields at [] below) refl

-- a name that has no field
pub header_short : (name : List ℕ) (names : List (List ℕ)) (fields : Fields) (at : ℕ) → length fields ≤ at
    → is_header (name ∷ names) (drop at fields) ≡ false
header_short name names fields at past = rw (drop_all at fields past) refl

is_end : (at size : ℕ) → at ≡ size → (at == size) ≡ true
is_end at size same = grind (arith, nat_tests)

is_not_end : (at size : ℕ) → at < size → (at == size) ≡ false
is_not_end at size below = grind (arith, nat_tests)

-- fields that have no name
pub header_end : (fields : Fields) (at : ℕ) → at ≤ length fields → is_header [] (drop at fields) ≡ (at == length fields)
header_end fields at low = by (drop at fields) refl
  where
    by : (rest : Fields) → drop at fields ≡ rest → is_header [] (drop at fields) ≡ (at == length fields)
    by [] is =
        let left : length fields - at ≡ 0 = rw is at (sym (length-drop at fields)) in
        rw (is, is_end at (length fields) (omega arith)) refl
    by (field ∷ rest) is =
        let left : length fields - at ≡ suc (length rest) = rw is at (sym (length-drop at fields)) in
        rw (is, is_not_end at (length fields) (omega arith)) refl

pub ruleset name_by_name = (names_from-own, names_from-other, names_from-end, header_next, header_short, header_end)
