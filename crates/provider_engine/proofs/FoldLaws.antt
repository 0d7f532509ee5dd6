-- What a function makes of the cells of a column tells what it makes of their values: the least and the greatest cell, and the sum of
-- plain ones, which can be sealed again.
use Rattle.std.proofs.Common.{◌≡◌, ℕ, suc, ◌+◌, ◌*◌, ◌-◌, ◌^◌, ◌<◌, ◌≤◌, ℤ, pos, negsuc, ◌+ℤ◌, Bool, true, false, cond, List, [], ◌∷◌, length, fold, Some, refl, sym, ◌∙◌, ap, subst, arith}
use Rattle.std.proofs.lemmas.Int.{ints}
use Rattle.std.specs.Int.{w128}
use Rattle.std.specs.Int.RustNames.{FitsSigned}
use Rattle.base_laws.proofs.RangeLaws.{fits_64_bits-Decides}
use Rattle.base_laws.specs.Ranges.{fits_64_bits}
use Rattle.base_laws.specs.Sets.{has}
use Rattle.mq_base.specs.declared.query.Agg.TheVariants.{Sum, Min, Max}
use Rattle.mq_base.specs.declared.query.CmpOp.TheVariants.{Lt, Gt}
use Rattle.mq_base.specs.declared.value.Value.{Value}
use Rattle.mq_base.specs.declared.value.Value.TheVariants.{Int, Text}
use Rattle.mq_base.specs.declared.value.ValueType.TheVariants as type
use Rattle.mq_base.specs.BoundQuery.{type_at}
use Rattle.mq_base.specs.Value.{value_cmp}
use Rattle.provider_engine.proofs.CellLaws.{Frame, IsSplit, Tells, order_comparable}
use Rattle.column_table.specs.Cells.{Cell, Plain, Sealed, cell_step, cell_tests, compares_pair, summed}
use Rattle.provider_engine.specs.Opening.{seals_of}
use Rattle.relation_profile.specs.Profile.{Profile}
use Rattle.relation_profile.specs.Runnable.{is_comparable}
use Rattle.row_algebra.specs.Likeness.{Beside, LeadsAt, RespectsFold}
use Rattle.row_algebra.specs.Tests.{holds}
use Rattle.row_algebra.specs.Values.{sum_of, value_step, value_tests}

-- ---- lists beside each other

pub beside_leads : {X Y : Type 0} (R S : X → Y → Type 0) → ((x : X) (y : Y) → R x y → S x y) → (xs : List X) (ys : List Y)
    → Beside R xs ys → Beside S xs ys
beside_leads R S leads [] [] all = tt
beside_leads R S leads [] (y ∷ ys) all = absurd all
beside_leads R S leads (x ∷ xs) [] all = absurd all
beside_leads R S leads (x ∷ xs) (y ∷ ys) all = (leads x y all.0, beside_leads R S leads xs ys all.1)

fold_keeps : {C D : Type 0} (R : C → D → Type 0) (f : C → C → C) (g : D → D → D)
    → ((c : C) (d : D) (e : C) (h : D) → R c d → R e h → R (f c e) (g d h)) → (c : C) (d : D) (cs : List C) (ds : List D)
    → R c d → Beside R cs ds → R (fold f c cs) (fold g d ds)
fold_keeps R f g keeps c d [] [] first all = first
fold_keeps R f g keeps c d [] (h ∷ ds) first all = absurd all
fold_keeps R f g keeps c d (e ∷ cs) [] first all = absurd all
fold_keeps R f g keeps c d (e ∷ cs) (h ∷ ds) first all =
    fold_keeps R f g keeps (f c e) (g d h) cs ds (keeps c d e h first all.0) all.1

-- ---- the least and the greatest

chosen : {C D : Type 0} (R : C → D → Type 0) (b b' : Bool) (c : C) (d : D) (e : C) (h : D) → b ≡ b' → R c d → R e h
    → R (cond b e c) (cond b' h d)
chosen R true true c d e h same first second = second
chosen R false false c d e h same first second = first
chosen R true false c d e h same first second = cc
chosen R false true c d e h same first second = cc

pub least_tells : (f : Frame) (p q : Profile) → IsSplit p → (most a : ℕ) → is_comparable f.clusters.scheme Lt a p ≡ true
    → LeadsAt (Tells f false p) (Tells f true q) a
    → RespectsFold (Tells f false p) (Tells f true q) (cell_tests (seals_of f.clusters f.keys)) value_tests most a Min
least_tells f p q split most a can leads c d cs ds first all few =
    leads _ _ (fold_keeps (Tells f false p a) (cell_step Min) (value_step Min)
    (λ x v y w left right. chosen (Tells f false p a) (compares_pair Lt y x) (holds Lt (value_cmp w v)) x v y w
    (order_comparable f p split a Lt can y w x v right left) left right)
    c d cs ds first all)

pub greatest_tells : (f : Frame) (p q : Profile) → IsSplit p → (most a : ℕ) → is_comparable f.clusters.scheme Lt a p ≡ true
    → LeadsAt (Tells f false p) (Tells f true q) a
    → RespectsFold (Tells f false p) (Tells f true q) (cell_tests (seals_of f.clusters f.keys)) value_tests most a Max
greatest_tells f p q split most a can leads c d cs ds first all few =
    leads _ _ (fold_keeps (Tells f false p a) (cell_step Max) (value_step Max)
    (λ x v y w left right. chosen (Tells f false p a) (compares_pair Gt y x) (holds Gt (value_cmp w v)) x v y w
    (order_comparable f p split a Gt can y w x v right left) left right)
    c d cs ds first all)

-- ---- the sum

-- the distance of a number from 0
abbrev size : ℤ → ℕ
size (pos n) = n
size (negsuc n) = suc n

size_of_sum : (z x y : ℤ) → z ≡ x +ℤ y → size z ≤ size x + size y
size_of_sum (pos k) (pos m) (pos n) is = omega (arith, ints, is)
size_of_sum (pos k) (pos m) (negsuc n) is = omega (arith, ints, is)
size_of_sum (pos k) (negsuc m) (pos n) is = omega (arith, ints, is)
size_of_sum (pos k) (negsuc m) (negsuc n) is = omega (arith, ints, is)
size_of_sum (negsuc k) (pos m) (pos n) is = omega (arith, ints, is)
size_of_sum (negsuc k) (pos m) (negsuc n) is = omega (arith, ints, is)
size_of_sum (negsuc k) (negsuc m) (pos n) is = omega (arith, ints, is)
size_of_sum (negsuc k) (negsuc m) (negsuc n) is = omega (arith, ints, is)

size_of_cell : (x : ℤ) → fits_64_bits x ≡ true → size x ≤ 1 * 2 ^ 63
size_of_cell (pos n) fits = let small : n < 2 ^ 63 = ((fits_64_bits-Decides (pos n)).0 fits).sfits in omega arith
size_of_cell (negsuc n) fits = let small : n < 2 ^ 63 = ((fits_64_bits-Decides (negsuc n)).0 fits).sfits in omega arith

size_fits : (x : ℤ) (most : ℕ) → size x ≤ most * 2 ^ 63 → most ≤ 2 ^ 48 - 1 → FitsSigned w128 x
size_fits (pos n) most small few = record { sfits = omega (arith, small, few) }
size_fits (negsuc n) most small few = record { sfits = omega (arith, small, few) }

-- a plain cell with its value, the sum of so many INT within 64 bits
record IsSum (count : ℕ) (c : Cell) (v : Value) : Type 0 where
  number : ℤ
  cell : c ≡ Plain (Int number)
  value : v ≡ Int number
  small : size number ≤ count * 2 ^ 63

sum_more : (count : ℕ) (c d : Cell) (v w : Value) → IsSum count c v → IsSum 1 d w → IsSum (count + 1) (summed c d) (sum_of v w)
sum_more count c d v w sum one = record {
  number = sum.number +ℤ one.number;
  cell = rw (sum.cell, one.cell) refl;
  value = rw (sum.value, one.value) refl;
  small = omega (arith, size_of_sum (sum.number +ℤ one.number) sum.number one.number refl, sum.small, one.small);
}

sum_kept : (count most : ℕ) (c : Cell) (v : Value) (cs : List Cell) (vs : List Value) → IsSum count c v → Beside (IsSum 1) cs vs
    → count + length cs ≤ most → IsSum most (fold summed c cs) (fold sum_of v vs)
sum_kept count most c v [] [] sum all few =
    record { number = sum.number; cell = sum.cell; value = sum.value; small = omega (arith, sum.small, few) }
sum_kept count most c v [] (w ∷ vs) sum all few = absurd all
sum_kept count most c v (d ∷ cs) [] sum all few = absurd all
sum_kept count most c v (d ∷ cs) (w ∷ vs) sum all few =
    sum_kept (count + 1) most (summed c d) (sum_of v w) cs vs (sum_more count c d v w sum all.0) all.1 (omega (arith, few))

one_sum : (f : Frame) (p : Profile) → IsSplit p → (a : ℕ) → has p.visible_plain a ≡ true → type_at f.schema a ≡ Some type.Int
    → (c : Cell) (v : Value) → Tells f false p a c v → IsSum 1 c v
one_sum f p split a plain int (Sealed c) v tells = absurd (split a plain tells.shown.0)
one_sum f p split a plain int (Plain w) (Text t) tells =
    let h : Some type.Int ≡ Some type.Text = sym int ∙ tells.value.typed in cc
one_sum f p split a plain int (Plain w) (Int x) tells = record {
  number = x;
  cell = ap Plain tells.shown.1;
  value = refl;
  small = size_of_cell x (tells.value.small refl);
}

sum_shows : (f : Frame) (q : Profile) (most a : ℕ) → most ≤ 2 ^ 48 - 1 → has q.visible_plain a ≡ true
    → type_at f.schema a ≡ Some type.Int → (c : Cell) (v : Value) → IsSum most c v → Tells f true q a c v
sum_shows f q most a few plain int c v sum =
    subst (λ d. Tells f true q a d v) (sym sum.cell)
    (subst (λ w. Tells f true q a (Plain (Int sum.number)) w) (sym sum.value) (record {
      shown = (plain, refl);
      value = record {
        typed = int;
        sealable = record {
          fits = record { short = tt; representable = size_fits sum.number most sum.small few };
          bytes = tt;
        };
        small = λ (no : true ≡ false). cc;
      };
    }))

pub sum_tells : (f : Frame) (p q : Profile) → IsSplit p → (most a : ℕ) → most ≤ 2 ^ 48 - 1 → has p.visible_plain a ≡ true
    → has q.visible_plain a ≡ true → type_at f.schema a ≡ Some type.Int
    → RespectsFold (Tells f false p) (Tells f true q) (cell_tests (seals_of f.clusters f.keys)) value_tests most a Sum
sum_tells f p q split most a few plain still int c d cs ds first all within =
    sum_shows f q most a few still int _ _
    (sum_kept 1 most c d cs ds (one_sum f p split a plain int c d first)
    (beside_leads (Tells f false p a) (IsSum 1) (one_sum f p split a plain int) cs ds all) (omega (arith, within)))
