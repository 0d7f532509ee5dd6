-- What a cell of an encoded table tells of its value, and that cells compare as their values do wherever a step is runnable.
use Rattle.std.proofs.Common.{◌≡◌, ◌⊎◌, inl, inr, ℕ, zero, suc, ◌<◌, Bool, true, false, ◌&&◌, ◌||◌, not, List, [], ◌∷◌, length, get_or, Option, Some, None, option_map, refl, sym, ◌∙◌, ap, subst, arith}
use Rattle.std.proofs.lemmas.Option.{slice_get_within}
use Rattle.std.specs.Cmp.Lexicographic.{slice_cmp}
use Rattle.std.specs.List.{list_all, slice_get}
use Rattle.std.specs.Ordering.{nat_cmp}
use Rattle.base_laws.proofs.BoolLaws.{both}
use Rattle.base_laws.proofs.MemberLaws.{all_members-fail}
use Rattle.base_laws.specs.Sets.{has, members}
use Rattle.key_clusters.specs.declared.assigned.Clusters.{Clusters}
use Rattle.key_clusters.specs.Keys.{scheme_at}
use Rattle.mq_base.specs.declared.ids.AttrId.{AttrId}
use Rattle.mq_base.specs.declared.query.CmpOp.{CmpOp}
use Rattle.mq_base.specs.declared.query.CmpOp.TheVariants.{Eq, Ne, Lt, Le, Gt, Ge}
use Rattle.mq_base.specs.declared.schema.AttrInfo.{AttrInfo}
use Rattle.mq_base.specs.declared.schema.Schema.{Schema}
use Rattle.mq_base.specs.declared.table.Scheme.{Scheme}
use Rattle.mq_base.specs.declared.table.Scheme.TheVariants.{Rnd, Det, Ope}
use Rattle.mq_base.specs.declared.value.Value.{Value}
use Rattle.mq_base.specs.declared.value.Value.TheVariants.{Int, Text}
use Rattle.mq_base.specs.declared.value.ValueType.{ValueType}
use Rattle.mq_base.specs.declared.value.ValueType.TheVariants as type
use Rattle.mq_base.specs.BoundQuery.{HaveOneType, type_at}
use Rattle.mq_base.specs.Value.{IsCell, type_of, value_cmp}
use Rattle.column_table.specs.Cells.{Cell, Plain, Sealed, cell_tests, compares_pair}
use Rattle.provider_engine.specs.Typed.{IsConstantOf}
use Rattle.provider_engine.specs.Decoding.{ShareSeals}
use Rattle.provider_engine.specs.Opening.{listed_key, seals_of}
use Rattle.relation_profile.specs.Profile.{Profile}
use Rattle.relation_profile.specs.Runnable.{all_comparable, are_comparable, is_comparable, is_sealed_for}
use Rattle.mq_base.specs.Schemes.{offers, supports}
use Rattle.row_algebra.specs.Likeness.{RespectsConstant, RespectsPair}
use Rattle.row_algebra.specs.Tests.{holds}
use Rattle.row_algebra.specs.Values.{value_tests}
use Rattle.sealed_column.proofs.SealFacts.{table_cell}
use Rattle.sealed_column.specs.Seal.{HasBytes, IsSealable, Opens, seal}
use Rattle.sealed_column.specs.SealLaws.{det_agrees, ope_orders, seal_opens}
use Rattle.provider_engine.proofs.OrLaws.{either}

-- the schema of the tables, and the clusters and keys under which they are sealed
pub record Frame : Type 0 where
  pub schema : Schema
  pub clusters : Clusters
  pub keys : List (List ℕ)

abbrev pub scheme_in : Frame → ℕ → Scheme
scheme_in f a = scheme_at f.clusters a

abbrev pub key_in : Frame → ℕ → List ℕ
key_in f a = listed_key f.keys a

-- a value of an attribute: of its type, sealable, and before any group one that a table may hold
pub record IsValueOf (schema : Schema) (grouped : Bool) (a : ℕ) (v : Value) : Type 0 where
  pub typed : type_at schema a ≡ Some (type_of v)
  pub sealable : IsSealable v
  pub small : grouped ≡ false → IsCell (type_of v) v

-- a cell of an attribute, whose column is plain or sealed as a profile says, shows a value
abbrev pub IsShown : Frame → Profile → ℕ → Cell → Value → Type 0
IsShown f p a (Plain w) v = (has p.visible_plain a ≡ true) × (w ≡ v)
IsShown f p a (Sealed c) v = (has p.visible_encrypted a ≡ true) × Opens (scheme_in f a) (key_in f a) c v

pub record Tells (f : Frame) (grouped : Bool) (p : Profile) (a : ℕ) (c : Cell) (v : Value) : Type 0 where
  pub shown : IsShown f p a c v
  pub value : IsValueOf f.schema grouped a v

-- no column is plain and sealed
abbrev pub IsSplit : Profile → Type 0
IsSplit p = (a : ℕ) → has p.visible_plain a ≡ true → has p.visible_encrypted a ≡ true → ⊥

-- ---- one profile's cells are another's

-- what is visible by the first is visible, in the same way, by the second
pub record ShowsMore (p q : Profile) (a : ℕ) : Type 0 where
  pub plain : has p.visible_plain a ≡ true → has q.visible_plain a ≡ true
  pub sealed : has p.visible_encrypted a ≡ true → has q.visible_encrypted a ≡ true

shown_more : (f : Frame) (p q : Profile) (a : ℕ) → ShowsMore p q a → (c : Cell) (v : Value) → IsShown f p a c v → IsShown f q a c v
shown_more f p q a more (Plain w) v shown = (more.plain shown.0, shown.1)
shown_more f p q a more (Sealed c) v shown = (more.sealed shown.0, shown.1)

pub tells_more : (f : Frame) (grouped above : Bool) (p q : Profile) (a : ℕ) → ShowsMore p q a → (above ≡ false → grouped ≡ false)
    → (c : Cell) (v : Value) → Tells f grouped p a c v → Tells f above q a c v
tells_more f grouped above p q a more level c v tells = record {
  shown = shown_more f p q a more c v tells.shown;
  value = record {
    typed = tells.value.typed;
    sealable = tells.value.sealable;
    small = λ below. tells.value.small (level below);
  };
}

-- ---- values

-- a value that a table may hold can be sealed, where it is made of bytes
pub cell_sealable : (ty : ValueType) (v : Value) → IsCell ty v → HasBytes v → IsSealable v
cell_sealable ty v cell bytes = (table_cell ty v cell bytes).sealable

pub cell_typed : (ty : ValueType) (v : Value) → IsCell ty v → type_of v ≡ ty
cell_typed type.Int (Int x) cell = refl
cell_typed type.Text (Text t) cell = refl
cell_typed type.Int (Text t) cell = absurd cell
cell_typed type.Text (Int x) cell = absurd cell

one_type : (o : Option ValueType) (s t : ValueType) → o ≡ Some s → o ≡ Some t → s ≡ t
one_type o s t is is_too = cc

-- an attribute of a type is one of the schema
pub type_small : (schema : Schema) (a : ℕ) (ty : ValueType) → type_at schema a ≡ Some ty → a < length schema.attrs
type_small schema a ty is = by_info (slice_get schema.attrs a) refl is
  where
    by_info : (o : Option AttrInfo) → slice_get schema.attrs a ≡ o
        → option_map (λ (info : AttrInfo). info.ty) o ≡ Some ty → a < length schema.attrs
    by_info None found typed = let h : None ≡ Some ty = typed in cc
    by_info (Some info) found typed = slice_get_within schema.attrs a info found

-- ---- sealed cells compare as their values do

order_supports : (scheme : Scheme) (op : CmpOp) → supports scheme Lt ≡ true → supports scheme op ≡ true
order_supports Ope op has = refl
order_supports Det op has = cc
order_supports Rnd op has = cc

pub bytes_agree : (scheme : Scheme) (op : CmpOp) (key c d : List ℕ) (v w : Value) → supports scheme op ≡ true
    → Opens scheme key c v → Opens scheme key d w → type_of v ≡ type_of w
    → holds op (slice_cmp nat_cmp c d) ≡ holds op (value_cmp v w)
bytes_agree Ope op key c d v w can first second typed = ap (holds op) (ope_orders key c d v w first second typed)
bytes_agree Det Eq key c d v w can first second typed = det_agrees key c d v w first second typed
bytes_agree Det Ne key c d v w can first second typed = ap not (det_agrees key c d v w first second typed)
bytes_agree Det Lt key c d v w can first second typed = cc
bytes_agree Det Le key c d v w can first second typed = cc
bytes_agree Det Gt key c d v w can first second typed = cc
bytes_agree Det Ge key c d v w can first second typed = cc
bytes_agree Rnd op key c d v w can first second typed = cc

offered : (schemes : List Scheme) (op : CmpOp) (a : ℕ) → offers schemes op a ≡ true → supports (get_or schemes a Rnd) op ≡ true
offered [] op a can = cc
offered (scheme ∷ rest) op zero can = can
offered (scheme ∷ rest) op (suc a) can = offered rest op a can

-- a sealed column that is comparable has a scheme that supports the comparison
sealed_supports : (f : Frame) (op : CmpOp) (a : ℕ) (p : Profile) → is_sealed_for f.clusters.scheme op a p ≡ true
    → supports (scheme_in f a) op ≡ true
sealed_supports f op a p can = offered f.clusters.scheme op a (both (has p.visible_encrypted a) _ can).1

not_plain : (a b : Bool) → (a ≡ true → ⊥) → (a || b) ≡ true → b ≡ true
not_plain true b never either = absurd (never refl)
not_plain false b never either = either

comparable_supports : (f : Frame) (op : CmpOp) (a : ℕ) (p : Profile) → IsSplit p → has p.visible_encrypted a ≡ true
    → is_comparable f.clusters.scheme op a p ≡ true → supports (scheme_in f a) op ≡ true
comparable_supports f op a p split sealed can =
    sealed_supports f op a p (not_plain (has p.visible_plain a) _ (λ plain. split a plain sealed) can)

-- a cell compares with a constant as its value does
pub constant_agrees : (f : Frame) (grouped : Bool) (p : Profile) → IsSplit p → (a : AttrId) (op : CmpOp) (x : Value)
    → is_comparable f.clusters.scheme op a.0 p ≡ true → IsConstantOf f.schema a x
    → RespectsConstant (Tells f grouped p) (cell_tests (seals_of f.clusters f.keys)) value_tests a.0 op x
constant_agrees f grouped p split a op x can is (Plain w) v tells = ap (λ y. holds op (value_cmp y x)) tells.shown.1
constant_agrees f grouped p split a op x can is (Sealed c) v tells =
    bytes_agree (scheme_in f a.0) op (key_in f a.0) c (seal (scheme_in f a.0) (key_in f a.0) 0 0 x) v x
    (comparable_supports f op a.0 p split tells.shown.0 can) tells.shown.1
    (seal_opens (scheme_in f a.0) (key_in f a.0) 0 0 x (omega arith) (omega arith) (cell_sealable is.held.ty x is.held.cell is.bytes))
    (one_type (type_at f.schema a.0) (type_of v) is.held.ty tells.value.typed is.held.typed ∙ sym (cell_typed is.held.ty x is.held.cell))

-- two cells that are alike compare as their values do
alike_agree : (f : Frame) (p : Profile) (a b : ℕ) (op : CmpOp)
    → (has p.visible_plain a ≡ true → has p.visible_encrypted b ≡ true → ⊥)
    → (has p.visible_encrypted a ≡ true → has p.visible_plain b ≡ true → ⊥)
    → (has p.visible_encrypted a ≡ true → supports (scheme_in f a) op ≡ true) → ShareSeals f.clusters f.keys a b
    → (c e : Cell) (v w : Value) → type_of v ≡ type_of w → IsShown f p a c v → IsShown f p b e w
    → compares_pair op c e ≡ holds op (value_cmp v w)
alike_agree f p a b op not_first not_second can share (Plain x) (Plain y) v w typed first second =
    ap (λ z. holds op (value_cmp z y)) first.1 ∙ ap (λ z. holds op (value_cmp v z)) second.1
alike_agree f p a b op not_first not_second can share (Plain x) (Sealed d) v w typed first second = absurd (not_first first.0 second.0)
alike_agree f p a b op not_first not_second can share (Sealed c) (Plain y) v w typed first second = absurd (not_second first.0 second.0)
alike_agree f p a b op not_first not_second can share (Sealed c) (Sealed d) v w typed first second =
    bytes_agree (scheme_in f a) op (key_in f a) c d v w (can first.0) first.1
    (subst (λ key. Opens (scheme_in f a) key d w) (sym share.key)
    (subst (λ scheme. Opens scheme (key_in f b) d w) (sym share.scheme) second.1))
    typed

-- two cells of attributes that are comparable compare as their values do
pub pair_agrees : (f : Frame) (grouped : Bool) (p : Profile) → IsSplit p → (a b : AttrId) (op : CmpOp)
    → are_comparable f.clusters.scheme op a.0 b.0 p ≡ true → HaveOneType f.schema a b → ShareSeals f.clusters f.keys a.0 b.0
    → RespectsPair (Tells f grouped p) (cell_tests (seals_of f.clusters f.keys)) value_tests a.0 op b.0
pair_agrees f grouped p split a b op can one share c v e w first second =
    by_side (either (has p.visible_plain a.0 && has p.visible_plain b.0)
    (is_sealed_for f.clusters.scheme op a.0 p && is_sealed_for f.clusters.scheme op b.0 p) can)
  where
    typed : type_of v ≡ type_of w
    typed = one_type (type_at f.schema a.0) (type_of v) one.ty first.value.typed one.left
        ∙ one_type (type_at f.schema b.0) one.ty (type_of w) one.right second.value.typed

    by_side : ((has p.visible_plain a.0 && has p.visible_plain b.0) ≡ true)
        ⊎ ((is_sealed_for f.clusters.scheme op a.0 p && is_sealed_for f.clusters.scheme op b.0 p) ≡ true)
        → compares_pair op c e ≡ holds op (value_cmp v w)
    by_side (inl plain) =
        let plains = both (has p.visible_plain a.0) (has p.visible_plain b.0) plain in
        alike_agree f p a.0 b.0 op (λ left right. split b.0 plains.1 right) (λ left right. split a.0 plains.0 left)
        (λ sealed. absurd (split a.0 plains.0 sealed)) share c e v w typed first.shown second.shown
    by_side (inr sealed) =
        let seals = both (is_sealed_for f.clusters.scheme op a.0 p) (is_sealed_for f.clusters.scheme op b.0 p) sealed in
        let left_sealed = (both (has p.visible_encrypted a.0) (offers f.clusters.scheme op a.0) seals.0).0 in
        let right_sealed = (both (has p.visible_encrypted b.0) (offers f.clusters.scheme op b.0) seals.1).0 in
        alike_agree f p a.0 b.0 op (λ left right. split a.0 left left_sealed) (λ left right. split b.0 right right_sealed)
        (λ also. sealed_supports f op a.0 p seals.0) share c e v w typed first.shown second.shown

-- and so do two cells of one attribute that is comparable
pub column_agrees : (f : Frame) (grouped : Bool) (p : Profile) → IsSplit p → (a : ℕ) (op : CmpOp)
    → is_comparable f.clusters.scheme op a p ≡ true
    → RespectsPair (Tells f grouped p) (cell_tests (seals_of f.clusters f.keys)) value_tests a op a
column_agrees f grouped p split a op can c v e w first second =
    alike_agree f p a a op (split a) (λ sealed plain. split a plain sealed)
    (λ sealed. comparable_supports f op a p split sealed can) (record { scheme = refl; key = refl }) c e v w
    (one_type (type_at f.schema a) (type_of v) (type_of w) first.value.typed second.value.typed) first.shown second.shown

-- a column that is comparable in order is so in every way
pub order_comparable : (f : Frame) (p : Profile) → IsSplit p → (a : ℕ) (op : CmpOp) → is_comparable f.clusters.scheme Lt a p ≡ true
    → RespectsPair (Tells f false p) (cell_tests (seals_of f.clusters f.keys)) value_tests a op a
order_comparable f p split a op can c v e w first second =
    alike_agree f p a a op (split a) (λ sealed plain. split a plain sealed)
    (λ sealed. order_supports (scheme_in f a) op (comparable_supports f Lt a p split sealed can))
    (record { scheme = refl; key = refl }) c e v w
    (one_type (type_at f.schema a) (type_of v) (type_of w) first.value.typed second.value.typed) first.shown second.shown

-- a member of a set that is comparable throughout is comparable
pub member_comparable : (schemes : List Scheme) (op : CmpOp) (set : ℕ) (p : Profile) → all_comparable schemes op set p ≡ true
    → (a : ℕ) → has set a ≡ true → a < 64 → is_comparable schemes op a p ≡ true
member_comparable schemes op set p all a inside small = by_test (is_comparable schemes op a p) refl
  where
    by_test : (b : Bool) → is_comparable schemes op a p ≡ b → b ≡ true
    by_test true passes = refl
    by_test false fails =
        let h : list_all (λ i. is_comparable schemes op i p) (members set) ≡ false =
        all_members-fail (λ i. is_comparable schemes op i p) set a inside small fails in
        cc
