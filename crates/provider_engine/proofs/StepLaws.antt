-- Each step leads from cells that tell the values of rows to cells that tell the values of the rows after it.
use Rattle.std.proofs.Common.{◌≡◌, ℕ, ◌+◌, ◌-◌, ◌^◌, ◌<◌, ◌≤◌, Bool, true, false, cond, List, [], ◌∷◌, length, map, Option, Some, None, option_map, option_and_then, refl, sym, ap, subst, arith}
use Rattle.std.specs.List.{enumerate_from}
use Rattle.base_laws.specs.Sets.{has}
use Rattle.mq_base.specs.declared.value.Value.{Value}
use Rattle.provider_engine.proofs.CellLaws.{Frame, ShowsMore, Tells, key_in, scheme_in, tells_more}
use Rattle.provider_engine.proofs.OpenLaws.{opened_is}
use Rattle.column_table.specs.Cells.{Cell, Plain, Sealed}
use Rattle.provider_engine.specs.Opening.{seals_of}
use Rattle.provider_engine.specs.Run.{decoded, decoded_cell, opened_cell, opened_row, sealed_cell, sealed_row, sealed_rows}
use Rattle.relation_profile.specs.Profile.{Profile}
use Rattle.row_algebra.proofs.RowLaws.{same_row}
use Rattle.row_algebra.specs.Likeness.{AreLike, BothOr, IsLike}
use Rattle.row_algebra.specs.Rows.{RowOf, mapped}
use Rattle.sealed_column.specs.Seal.{Opens, seal}
use Rattle.sealed_column.specs.SealLaws.{seal_opens}

-- ---- rows with changed cells

changed_cell : (f : Frame) (grouped above : Bool) (p q : Profile) (a : ℕ) (change : Cell → Cell)
    → ((c : Cell) (v : Value) → Tells f grouped p a c v → Tells f above q a (change c) v) → (o : Option Cell) (w : Option Value)
    → BothOr (Tells f grouped p a) o w → BothOr (Tells f above q a) (option_map change o) w
changed_cell f grouped above p q a change leads None None tells = tt
changed_cell f grouped above p q a change leads None (Some v) tells = absurd tells
changed_cell f grouped above p q a change leads (Some c) None tells = absurd tells
changed_cell f grouped above p q a change leads (Some c) (Some v) tells = leads c v tells

changed_row : (f : Frame) (grouped above : Bool) (p q : Profile) (change : ℕ → Cell → Cell)
    → ((a : ℕ) (c : Cell) (v : Value) → Tells f grouped p a c v → Tells f above q a (change a c) v) → (u : RowOf Cell) (r : RowOf Value)
    → IsLike (Tells f grouped p) u r → IsLike (Tells f above q) (mapped change u) r
changed_row f grouped above p q change leads u r like = record {
  cells = λ a. changed_cell f grouped above p q a (change a) (leads a) (u.cell a) (r.cell a) (like.cells a);
  count = like.count;
}

-- rows numbered from a place on, each changed by its number
numbered : (f : Frame) (grouped above : Bool) (p q : Profile) (change : ℕ → RowOf Cell → RowOf Cell) (most : ℕ)
    → ((row : ℕ) → row < most → (u : RowOf Cell) (r : RowOf Value) → IsLike (Tells f grouped p) u r → IsLike (Tells f above q) (change row u) r)
    → (us : List (RowOf Cell)) (rs : List (RowOf Value)) (i : ℕ) → i + length us ≤ most → AreLike (Tells f grouped p) us rs
    → AreLike (Tells f above q) (map (λ at. change at.0 at.1) (enumerate_from i us)) rs
numbered f grouped above p q change most leads [] [] i few all = tt
numbered f grouped above p q change most leads [] (r ∷ rs) i few all = absurd all
numbered f grouped above p q change most leads (u ∷ us) [] i few all = absurd all
numbered f grouped above p q change most leads (u ∷ us) (r ∷ rs) i few all = (
  leads i (omega (arith, few)) u r all.0,
  numbered f grouped above p q change most leads us rs (i + 1) (omega (arith, few)) all.1,
)

each_changed : (f : Frame) (grouped above : Bool) (p q : Profile) (change : RowOf Cell → RowOf Cell)
    → ((u : RowOf Cell) (r : RowOf Value) → IsLike (Tells f grouped p) u r → IsLike (Tells f above q) (change u) r)
    → (us : List (RowOf Cell)) (rs : List (RowOf Value)) → AreLike (Tells f grouped p) us rs → AreLike (Tells f above q) (map change us) rs
each_changed f grouped above p q change leads [] [] all = tt
each_changed f grouped above p q change leads [] (r ∷ rs) all = absurd all
each_changed f grouped above p q change leads (u ∷ us) [] all = absurd all
each_changed f grouped above p q change leads (u ∷ us) (r ∷ rs) all =
    (leads u r all.0, each_changed f grouped above p q change leads us rs all.1)

-- ---- sealing

-- of a profile after the columns of a set were sealed
pub record IsSealedFrom (p : Profile) (set : ℕ) (q : Profile) : Type 0 where
  pub outside : (a : ℕ) → has set a ≡ false → ShowsMore p q a
  pub plain : (a : ℕ) → has set a ≡ true → has p.visible_plain a ≡ true → has q.visible_encrypted a ≡ true
  pub sealed : (a : ℕ) → has set a ≡ true → has p.visible_encrypted a ≡ true → has q.visible_encrypted a ≡ true

sealed_tells : (f : Frame) (grouped : Bool) (p q : Profile) (set place row : ℕ) → IsSealedFrom p set q → place < 2 ^ 32 → row < 2 ^ 64
    → (a : ℕ) (b : Bool) → has set a ≡ b → (c : Cell) (v : Value) → Tells f grouped p a c v
    → Tells f grouped q a (cond b (sealed_cell (seals_of f.clusters f.keys) place row a c) c) v
sealed_tells f grouped p q set place row seals early small a false is c v tells =
    tells_more f grouped grouped p q a (seals.outside a is) (λ below. below) c v tells
sealed_tells f grouped p q set place row seals early small a true is (Plain w) v tells = record {
  shown = (
    seals.plain a is tells.shown.0,
    subst (λ x. Opens (scheme_in f a) (key_in f a)
        (seal (scheme_in f a) (key_in f a) place row x) v) (sym tells.shown.1)
        (seal_opens (scheme_in f a) (key_in f a) place row v early small tells.value.sealable),
  );
  value = tells.value;
}
sealed_tells f grouped p q set place row seals early small a true is (Sealed c) v tells =
    record { shown = (seals.sealed a is tells.shown.0, tells.shown.1); value = tells.value }

-- sealing the columns of a set tells the same rows
pub sealing_tells : (f : Frame) (grouped : Bool) (p q : Profile) (set place : ℕ) → IsSealedFrom p set q → place < 2 ^ 32
    → (us : List (RowOf Cell)) (rs : List (RowOf Value)) → length us ≤ 2 ^ 48 - 1 → AreLike (Tells f grouped p) us rs
    → AreLike (Tells f grouped q) (sealed_rows (seals_of f.clusters f.keys) set place us) rs
sealing_tells f grouped p q set place seals early us rs few all =
    numbered f grouped grouped p q (sealed_row (seals_of f.clusters f.keys) set place) (2 ^ 64)
    (λ row small u r like. changed_row f grouped grouped p q
    (λ a c. cond (has set a) (sealed_cell (seals_of f.clusters f.keys) place row a c) c)
    (λ a c v tells. sealed_tells f grouped p q set place row seals early small a (has set a) refl c v tells) u r like)
    us rs 0 (omega (arith, few)) all

-- ---- opening

-- of a profile after the columns of a set were opened
pub record IsOpenedFrom (p : Profile) (set : ℕ) (q : Profile) : Type 0 where
  pub outside : (a : ℕ) → has set a ≡ false → ShowsMore p q a
  pub plain : (a : ℕ) → has set a ≡ true → has p.visible_plain a ≡ true → has q.visible_plain a ≡ true
  pub sealed : (a : ℕ) → has set a ≡ true → has p.visible_encrypted a ≡ true → has q.visible_plain a ≡ true

opened_tells : (f : Frame) (grouped : Bool) (p q : Profile) (set : ℕ) → IsOpenedFrom p set q → (a : ℕ) (b : Bool) → has set a ≡ b
    → (c : Cell) (v : Value) → Tells f grouped p a c v
    → Tells f grouped q a (cond b (opened_cell (seals_of f.clusters f.keys) a c) c) v
opened_tells f grouped p q set opens a false is c v tells = tells_more f grouped grouped p q a (opens.outside a is) (λ below. below) c v tells
opened_tells f grouped p q set opens a true is (Plain w) v tells =
    record { shown = (opens.plain a is tells.shown.0, tells.shown.1); value = tells.value }
opened_tells f grouped p q set opens a true is (Sealed c) v tells =
    rw (opened_is (scheme_in f a) (key_in f a) c v tells.shown.1)
    (record { shown = (opens.sealed a is tells.shown.0, refl); value = tells.value })

pub opening_tells : (f : Frame) (grouped : Bool) (p q : Profile) (set : ℕ) → IsOpenedFrom p set q → (us : List (RowOf Cell))
    (rs : List (RowOf Value)) → AreLike (Tells f grouped p) us rs
    → AreLike (Tells f grouped q) (map (opened_row (seals_of f.clusters f.keys) set) us) rs
opening_tells f grouped p q set opens us rs all =
    each_changed f grouped grouped p q (opened_row (seals_of f.clusters f.keys) set)
    (λ u r like. changed_row f grouped grouped p q (λ a c. cond (has set a) (opened_cell (seals_of f.clusters f.keys) a c) c)
    (λ a c v tells. opened_tells f grouped p q set opens a (has set a) refl c v tells) u r like)
    us rs all

-- ---- decoding

decoded_value : (f : Frame) (grouped : Bool) (p : Profile) (a : ℕ) (o : Option Cell) (w : Option Value)
    → BothOr (Tells f grouped p a) o w → option_and_then (decoded_cell (seals_of f.clusters f.keys) a) o ≡ w
decoded_value f grouped p a None None tells = refl
decoded_value f grouped p a None (Some v) tells = absurd tells
decoded_value f grouped p a (Some c) None tells = absurd tells
decoded_value f grouped p a (Some (Plain w)) (Some v) tells = ap Some tells.shown.1
decoded_value f grouped p a (Some (Sealed c)) (Some v) tells = opened_is (scheme_in f a) (key_in f a) c v tells.shown.1

-- cells that tell the values of rows decode to them
pub decoding : (f : Frame) (grouped : Bool) (p : Profile) (us : List (RowOf Cell)) (rs : List (RowOf Value))
    → AreLike (Tells f grouped p) us rs → map (decoded (seals_of f.clusters f.keys)) us ≡ rs
decoding f grouped p [] [] all = refl
decoding f grouped p [] (r ∷ rs) all = absurd all
decoding f grouped p (u ∷ us) [] all = absurd all
decoding f grouped p (u ∷ us) (r ∷ rs) all =
    rw (
      same_row (decoded (seals_of f.clusters f.keys) u) r (λ a. decoded_value f grouped p a (u.cell a) (r.cell a) (all.0.cells a)) all.0.count,
      decoding f grouped p us rs all.1,
    ) refl
