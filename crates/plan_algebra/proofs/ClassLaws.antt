-- What nodes make of families are families: disjoint sets in the order of their least members.
use Rattle.std.proofs.Common.{◌≡◌, ◌≢◌, ℕ, zero, suc, ◌^◌, ◌<◌, ◌==◌, Bool, true, false, cond, not, List, [], ◌∷◌, length, get_or, All, refl, ◌∙◌, ap, bit_and, bit_or, arith}
use Rattle.std.specs.Prelude.{filter}
use Rattle.std.specs.Int.{trailing_zeros, w64}
use Rattle.std.specs.Ordering.{is_gt, nat_cmp}
use Rattle.std.proofs.lemmas.Bool.{eqb-true, or_right}
use Rattle.std.proofs.lemmas.List.Elements.{All-cons, All-filter, All-head, All-nil, All-tail, All-weaker, filter_passes}
use Rattle.std.proofs.Math.Pow.{pow-lt}
use Rattle.std.proofs.lemmas.Nat.{le_or_l, or_lt, pow_pos}
use Rattle.std.proofs.lemmas.Nat.Bits.{bit_at-trailing_zeros}
use Rattle.base_laws.specs.Sets.{has, IsWithin}
use Rattle.base_laws.proofs.ApartLaws.{apart_has, apart_turned, apart_within, or_apart}
use Rattle.base_laws.proofs.NumberLaws.{after_is, upto_is}
use Rattle.base_laws.proofs.SetLaws.{has-bit_or}
use Rattle.base_laws.proofs.UnionLaws.{single-within, union-within}
use Rattle.mq_base.specs.declared.attr_set.AttrSet.{AttrSet}
use Rattle.mq_base.specs.declared.ids.AttrId.{AttrId}
use Rattle.mq_base.specs.declared.plan.PlanNode.{PlanNode}
use Rattle.mq_base.specs.declared.plan.PlanOp.{PlanOp}
use Rattle.mq_base.specs.declared.plan.PlanOp.TheVariants as op
use Rattle.plan_algebra.specs.declared.facts.NodeFacts.{NodeFacts}
use Rattle.plan_algebra.specs.declared.kind.Kind.{Kind}
use Rattle.plan_algebra.specs.declared.kind.Kind.TheVariants as kind
use Rattle.plan_algebra.specs.Facts.{AreApart, IsFacts, IsFamilyVisible, IsNodeAt, IsOneOn, IsTwoOn, facts_at, node_at, one_facts, product_facts, two_facts}
use Rattle.plan_algebra.specs.Families.{IsBefore, IsClass, IsFamily, by_least, meets, merged, pair, placed, united, with_all}
use Rattle.plan_algebra.specs.Kinds.{kind_of}

-- the least members of two classes that have none in common differ
least_inside : (s : AttrSet) → IsClass s → has s.0 (trailing_zeros w64 s.0) ≡ true
least_inside s class = rw ((bit_at-trailing_zeros w64 s.0 class.some class.small).1) refl

least_differ : (s t : AttrSet) → IsClass s → IsClass t → bit_and s.0 t.0 ≡ 0 → trailing_zeros w64 s.0 ≢ trailing_zeros w64 t.0
least_differ s t first second apart same =
    let here = least_inside s first in
    let there = apart_has s.0 t.0 (trailing_zeros w64 s.0) apart here in
    let inside : has t.0 (trailing_zeros w64 s.0) ≡ true = rw same (least_inside t second) in
    cc

-- a set at its place
pub placed_all : (P : AttrSet → Type 0) (s : AttrSet) (family : List AttrSet) → P s → All P family → All P (placed s family)
placed_all P s [] here all = All-cons P s [] here (All-nil P)
placed_all P s (t ∷ rest) here all = by_test (is_gt (by_least s t)) (placed_all P s rest here (All-tail P t rest all))
  where
    by_test : (b : Bool) → All P (placed s rest) → All P (cond b (t ∷ placed s rest) (s ∷ t ∷ rest))
    by_test true more = All-cons P t (placed s rest) (All-head P t rest all) more
    by_test false more = All-cons P s (t ∷ rest) here all

abbrev IsApartFrom : AttrSet → AttrSet → Type 0
IsApartFrom s t = bit_and s.0 t.0 ≡ 0

pub placed-family : (s : AttrSet) (family : List AttrSet) → IsClass s → All (IsApartFrom s) family → IsFamily family → IsFamily (placed s family)
placed-family s [] class apart fam = (class, All-nil (IsBefore s), tt)
placed-family s (t ∷ rest) class apart fam =
    by_test (is_gt (by_least s t)) refl (placed-family s rest class (All-tail (IsApartFrom s) t rest apart) fam.2)
  where
    here : IsApartFrom s t
    here = All-head (IsApartFrom s) t rest apart

    by_test : (b : Bool) → is_gt (nat_cmp (trailing_zeros w64 s.0) (trailing_zeros w64 t.0)) ≡ b → IsFamily (placed s rest)
        → IsFamily (cond b (t ∷ placed s rest) (s ∷ t ∷ rest))
    by_test true after more =
        (fam.0, placed_all (IsBefore t) s rest (record { apart = apart_turned s.0 t.0 here; lower = after_is _ _ after }) fam.1, more)
    by_test false upto more =
        let lower : trailing_zeros w64 s.0 < trailing_zeros w64 t.0 =
        omega (arith, upto_is (trailing_zeros w64 s.0) (trailing_zeros w64 t.0) upto, least_differ s t class fam.0 here) in (
          class,
          All-cons (IsBefore s) t rest (record { apart = here; lower = lower })
              (λ k d below. record {
                apart = All-tail (IsApartFrom s) t rest apart k d below;
                lower = omega (arith, lower, (fam.1 k d below).lower);
              }),
          fam,
        )

-- a part of a family
filter-family : (p : AttrSet → Bool) (family : List AttrSet) → IsFamily family → IsFamily (filter p family)
filter-family p [] fam = tt
filter-family p (s ∷ rest) fam = by_test (p s) (filter-family p rest fam.2)
  where
    by_test : (b : Bool) → IsFamily (filter p rest) → IsFamily (cond b (s ∷ filter p rest) (filter p rest))
    by_test true more = (fam.0, All-filter p (IsBefore s) rest fam.1, more)
    by_test false more = more

classes : (family : List AttrSet) → IsFamily family → All IsClass family
classes [] fam = All-nil IsClass
classes (s ∷ rest) fam = All-cons IsClass s rest fam.0 (classes rest fam.2)

-- each set that passes is apart from each that does not
parted : (p : AttrSet → Bool) (family : List AttrSet) → IsFamily family
    → All (λ u. All (λ t. IsApartFrom t u) (filter p family)) (filter (λ u. not (p u)) family)
parted p [] fam = All-nil (λ u. All (λ t. IsApartFrom t u) [])
parted p (s ∷ rest) fam = by_test (p s) (parted p rest fam.2)
  where
    by_test : (b : Bool) → All (λ u. All (λ t. IsApartFrom t u) (filter p rest)) (filter (λ u. not (p u)) rest)
        → All (λ u. All (λ t. IsApartFrom t u) (cond b (s ∷ filter p rest) (filter p rest)))
        (cond (not b) (s ∷ filter (λ u. not (p u)) rest) (filter (λ u. not (p u)) rest))
    by_test true more = λ k d below.
        All-cons (λ t. IsApartFrom t (get_or (filter (λ u. not (p u)) rest) k d)) s (filter p rest) ((All-filter (λ u. not (p u)) (IsBefore s) rest fam.1 k d below).apart) (more k d below)
    by_test false more =
        All-cons (λ u. All (λ t. IsApartFrom t u) (filter p rest)) s (filter (λ u. not (p u)) rest)
        (All-weaker (IsBefore s) (λ t. IsApartFrom t s) (λ t before. apart_turned s.0 t.0 before.apart) (filter p rest) (All-filter p (IsBefore s) rest fam.1)) more

-- sets made one
with_all-class : (s : AttrSet) (sets : List AttrSet) → IsClass s → All IsClass sets → IsClass (with_all s sets)
with_all-class s [] class all = class
with_all-class s (t ∷ rest) class all =
    let here : IsClass t = All-head IsClass t rest all in
    with_all-class (record { 0 = bit_or s.0 t.0 }) rest
    (record { some = omega (arith, class.some, le_or_l s.0 t.0); small = or_lt 64 s.0 t.0 class.small here.small }) (All-tail IsClass t rest all)

with_all-apart : (u s : AttrSet) (sets : List AttrSet) → IsApartFrom s u → All (λ t. IsApartFrom t u) sets → IsApartFrom (with_all s sets) u
with_all-apart u s [] here all = here
with_all-apart u s (t ∷ rest) here all =
    with_all-apart u (record { 0 = bit_or s.0 t.0 }) rest (or_apart s.0 t.0 u.0 here (All-head (λ t. IsApartFrom t u) t rest all))
    (All-tail (λ t. IsApartFrom t u) t rest all)

single_small : (a : ℕ) → a < 64 → 2 ^ a < 2 ^ 64
single_small a small = pow-lt small

pair-class : (a b : AttrId) → a.0 < 64 → b.0 < 64 → IsClass (pair a b)
pair-class a b small_a small_b = record {
  some = omega (arith, le_or_l (2 ^ a.0) (2 ^ b.0), pow_pos a.0);
  small = or_lt 64 (2 ^ a.0) (2 ^ b.0) (single_small a.0 small_a) (single_small b.0 small_b);
}

unmet : (s t : AttrSet) → not (meets s t) ≡ true → IsApartFrom s t
unmet s t none = by_test (bit_and s.0 t.0 == 0) refl none
  where
    by_test : (b : Bool) → (bit_and s.0 t.0 == 0) ≡ b → not (not b) ≡ true → bit_and s.0 t.0 ≡ 0
    by_test true same h = eqb-true (bit_and s.0 t.0) 0 same
    by_test false other h = cc

pub merged-family : (a b : AttrId) (family : List AttrSet) → a.0 < 64 → b.0 < 64 → IsFamily family → IsFamily (merged a b family)
merged-family a b family small_a small_b fam =
    let both = pair a b in
    let met = filter (meets both) family in
    let rest = filter (λ s. not (meets both s)) family in
    let apart = parted (meets both) family fam in
    let none = filter_passes (λ s. not (meets both s)) family in
    placed-family (with_all both met) rest
    (with_all-class both met (pair-class a b small_a small_b) (All-filter (meets both) IsClass family (classes family fam)))
    (λ k d below. with_all-apart _ both met (unmet both _ (none k d below)) (apart k d below))
    (filter-family (λ s. not (meets both s)) family fam)

pub united-family : (family other : List AttrSet) → IsFamily family → IsFamily other → All (λ u. All (IsApartFrom u) family) other
    → IsFamily (united family other)
united-family family [] fam more apart = fam
united-family family (u ∷ rest) fam more apart =
    united-family (placed u family) rest
    (placed-family u family more.0 (All-head (λ v. All (IsApartFrom v) family) u rest apart) fam) more.2
    (λ k d below. placed_all (IsApartFrom _) u family (apart_turned u.0 _ ((more.1 k d below).apart))
    (All-tail (λ v. All (IsApartFrom v) family) u rest apart k d below))

-- the families of nodes
one_family : (o : PlanOp) (f : NodeFacts) → IsOneOn o f → IsFamily f.eq → IsFamily (one_facts o f).eq
one_family (op.SelAttr a cmp b) f on fam = merged-family a b f.eq on.0.small on.1.small fam
one_family (op.Project kept) f on fam = fam
one_family (op.Group by aggs count) f on fam = fam
one_family _ f on fam = fam

product_family : (f g : NodeFacts) → AreApart f g → IsFamily f.eq → IsFamily g.eq → IsFamily (product_facts f g).eq
product_family f g apart left right =
    united-family f.eq g.eq left right
    (λ k d below m e under. apart_turned _ _ (apart_within _ _ f.visible.0 g.visible.0 apart.apart (apart.left_family m e under) (apart.right_family k d below)))

two_family : (o : PlanOp) (f g : NodeFacts) → IsTwoOn o f g → IsFamily f.eq → IsFamily g.eq → IsFamily (two_facts o f g).eq
two_family op.Product f g on left right = product_family f g on left right
two_family (op.Join a cmp b) f g on left right =
    merged-family a b (product_facts f g).eq on.1.small on.2.small (product_family f g on.0 left right)
two_family _ f g on left right = absurd on

node_family : (facts : ℕ → NodeFacts) (n : ℕ) (o : PlanOp) (k : Kind) → IsNodeAt facts n o k → ((m : ℕ) → m < n → IsFamily (facts m).eq)
    → IsFamily (facts n).eq
node_family facts n (op.Base t used) kind.Leaf at before = rw at tt
node_family facts n _ kind.Leaf at before = absurd at
node_family facts n o (kind.One x) at before = rw at.are (one_family o (facts x.0) at.stands (before x.0 at.below))
node_family facts n o (kind.Two x y) at before =
    rw at.are (two_family o (facts x.0) (facts y.0) at.stands (before x.0 (omega (arith, at.left_below, at.right_below))) (before y.0 at.right_below))

families_below : (nodes : List PlanNode) (facts : List NodeFacts) → IsFacts nodes facts → (m n : ℕ) → n < m → n < length nodes
    → IsFamily (facts_at facts n).eq
families_below nodes facts are zero n below inside = absurd (omega (arith, below))
families_below nodes facts are (suc m) n below inside =
    node_family (facts_at facts) n (node_at nodes n).op (kind_of (node_at nodes n)) (are.node n inside)
    (λ k under. families_below nodes facts are m k (omega (arith, below, under)) (omega (arith, inside, under)))

-- the family of each node is one
pub node-family : (nodes : List PlanNode) (facts : List NodeFacts) (n : ℕ) → IsFacts nodes facts → n < length nodes → IsFamily (facts_at facts n).eq
node-family nodes facts n are inside = families_below nodes facts are (suc n) n (omega arith) inside

-- families stay visible
abbrev pub AreWithin : ℕ → List AttrSet → Type 0
AreWithin visible family = All (λ (s : AttrSet). IsWithin s.0 visible) family

with_all-within : (v : ℕ) (s : AttrSet) (sets : List AttrSet) → IsWithin s.0 v → AreWithin v sets → IsWithin (with_all s sets).0 v
with_all-within v s [] here all = here
with_all-within v s (t ∷ rest) here all =
    with_all-within v (record { 0 = bit_or s.0 t.0 }) rest (union-within s.0 t.0 v here (All-head (λ (s : AttrSet). IsWithin s.0 v) t rest all))
    (All-tail (λ (s : AttrSet). IsWithin s.0 v) t rest all)

pub merged-within : (v : ℕ) (a b : AttrId) (family : List AttrSet) → has v a.0 ≡ true → has v b.0 ≡ true → AreWithin v family → AreWithin v (merged a b family)
merged-within v a b family left right all =
    placed_all (λ (s : AttrSet). IsWithin s.0 v) (with_all (pair a b) (filter (meets (pair a b)) family)) (filter (λ s. not (meets (pair a b) s)) family)
    (with_all-within v (pair a b) (filter (meets (pair a b)) family)
    (union-within (2 ^ a.0) (2 ^ b.0) v (single-within a.0 v left) (single-within b.0 v right))
    (All-filter (meets (pair a b)) (λ (s : AttrSet). IsWithin s.0 v) family all))
    (All-filter (λ s. not (meets (pair a b) s)) (λ (s : AttrSet). IsWithin s.0 v) family all)

pub united-within : (v : ℕ) (family other : List AttrSet) → AreWithin v family → AreWithin v other → AreWithin v (united family other)
united-within v family [] all more = all
united-within v family (u ∷ rest) all more =
    united-within v (placed u family) rest
    (placed_all (λ (s : AttrSet). IsWithin s.0 v) u family (All-head (λ (s : AttrSet). IsWithin s.0 v) u rest more) all)
    (All-tail (λ (s : AttrSet). IsWithin s.0 v) u rest more)

left_within : (v w : ℕ) (family : List AttrSet) → AreWithin v family → AreWithin (bit_or v w) family
left_within v w family all =
    All-weaker (λ (s : AttrSet). IsWithin s.0 v) (λ (s : AttrSet). IsWithin s.0 (bit_or v w))
    (λ s within. record { member = λ i inside. has-bit_or v w i ∙ rw (within.member i inside) refl }) family all

right_within : (v w : ℕ) (family : List AttrSet) → AreWithin w family → AreWithin (bit_or v w) family
right_within v w family all =
    All-weaker (λ (s : AttrSet). IsWithin s.0 w) (λ (s : AttrSet). IsWithin s.0 (bit_or v w))
    (λ s within. record { member = λ i inside. has-bit_or v w i ∙ or_right (has v i) (has w i) (within.member i inside) }) family all

pub product-visible : (f g : NodeFacts) → IsFamilyVisible f → IsFamilyVisible g → IsFamilyVisible (product_facts f g)
product-visible f g left right =
    united-within (bit_or f.visible.0 g.visible.0) f.eq g.eq (left_within f.visible.0 g.visible.0 f.eq left) (right_within f.visible.0 g.visible.0 g.eq right)

two_kept : (o : PlanOp) (f g : NodeFacts) → IsTwoOn o f g → IsFamilyVisible (product_facts f g) → IsFamilyVisible (two_facts o f g)
two_kept op.Product f g on kept = kept
two_kept (op.Join a cmp b) f g on kept =
    merged-within (bit_or f.visible.0 g.visible.0) a b (united f.eq g.eq)
    (has-bit_or f.visible.0 g.visible.0 a.0 ∙ rw on.1.visible refl)
    (has-bit_or f.visible.0 g.visible.0 b.0 ∙ or_right (has f.visible.0 b.0) (has g.visible.0 b.0) on.2.visible) kept
two_kept _ f g on kept = absurd on

pub two-visible : (o : PlanOp) (f g : NodeFacts) → IsTwoOn o f g → IsFamilyVisible f → IsFamilyVisible g → IsFamilyVisible (two_facts o f g)
two-visible o f g on left right = two_kept o f g on (product-visible f g left right)

pub one-visible : (o : PlanOp) (f : NodeFacts) → IsOneOn o f → (one_facts o f).visible ≡ f.visible → IsFamilyVisible f → IsFamilyVisible (one_facts o f)
one-visible (op.SelAttr a cmp b) f on same kept = merged-within f.visible.0 a b f.eq on.0.visible on.1.visible kept
one-visible (op.Project set) f on same kept = rw (ap (λ (s : AttrSet). s.0) same) kept
one-visible (op.Group by aggs count) f on same kept = rw (ap (λ (s : AttrSet). s.0) same) kept
one-visible _ f on same kept = kept

pub ruleset families = (node-family)
