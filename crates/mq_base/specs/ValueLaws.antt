-- The order of values is a total one, and ties are one value.
use Rattle.std.proofs.Common.{◌≡◌, refl, sym, ◌∙◌, ap, ℕ}
use Rattle.std.proofs.lemmas.Bool.{eqb-true}
use Rattle.std.specs.Ordering.{is_eq, nat_cmp, ordering_reverse}
use Rattle.std.specs.declared.cmp.Ordering.TheVariants.{Less, Equal}
use Rattle.std.specs.Cmp.{IsTotalOrder, IsEquivalence, int_cmp_total, signed_Decides, unsigned_tied, eq_by_cmp_equiv}
use Rattle.std.specs.Cmp.Lexicographic.{nat_list_cmp_total}
use Rattle.base_laws.proofs.SortLaws.{lists_tied}
use Rattle.mq_base.specs.declared.value.Value.{Value}
use Rattle.mq_base.specs.declared.value.Value.TheVariants.{Int, Text}
use Rattle.mq_base.specs.Value.{value_cmp, value_eq}

antisymm : (x y : Value) → value_cmp x y ≡ ordering_reverse (value_cmp y x)
antisymm (Int x) (Int y) = int_cmp_total.antisymm x y
antisymm (Int x) (Text t) = refl
antisymm (Text s) (Int y) = refl
antisymm (Text s) (Text t) = nat_list_cmp_total.antisymm s t

trans : (x y z : Value) → value_cmp x y ≡ Less → value_cmp y z ≡ Less → value_cmp x z ≡ Less
trans (Int x) (Int y) (Int z) below above = int_cmp_total.trans x y z below above
trans (Int x) (Int y) (Text u) below above = refl
trans (Int x) (Text t) (Int z) below above = cc
trans (Int x) (Text t) (Text u) below above = refl
trans (Text s) (Int y) z below above = cc
trans (Text s) (Text t) (Int z) below above = cc
trans (Text s) (Text t) (Text u) below above = nat_list_cmp_total.trans s t u below above

congr : (x y z : Value) → value_cmp x y ≡ Equal → value_cmp x z ≡ value_cmp y z
congr (Int x) (Int y) (Int z) same = int_cmp_total.congr x y z same
congr (Int x) (Int y) (Text u) same = refl
congr (Int x) (Text t) z same = cc
congr (Text s) (Int y) z same = cc
congr (Text s) (Text t) (Int z) same = refl
congr (Text s) (Text t) (Text u) same = nat_list_cmp_total.congr s t u same

-- the order is total
pub value_total : IsTotalOrder value_cmp
value_total = record { antisymm = antisymm; trans = trans; congr = congr }

-- being one value is an equivalence
pub value_equiv : IsEquivalence value_eq
value_equiv = eq_by_cmp_equiv value_total

-- a tie of values is one value
pub value_ties : (x y : Value) → value_cmp x y ≡ Equal → x ≡ y
value_ties (Int x) (Int y) tied = ap Int ((signed_Decides x y).0 (ap is_eq tied))
value_ties (Int x) (Text t) tied = cc
value_ties (Text s) (Int y) tied = cc
value_ties (Text s) (Text t) tied = ap Text (lists_tied nat_cmp nat_ties s t tied)
  where
    nat_ties : (a b : ℕ) → nat_cmp a b ≡ Equal → a ≡ b
    nat_ties a b same = eqb-true a b (sym (unsigned_tied a b) ∙ ap is_eq same)
