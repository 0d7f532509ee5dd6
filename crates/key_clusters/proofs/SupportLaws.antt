-- The schemes of clusters support what the plan asks for, where no ceiling lowers them; and attributes of one set have one key.
use Rattle.std.proofs.Common.{◌≡◌, ℕ, zero, suc, ◌<◌, ◌==◌, Bool, true, false, cond, not, List, [], ◌∷◌, length, get_or, map, Some, All, refl, ◌∙◌, ap, arith, bit_and, zero-add}
use Rattle.std.specs.Prelude.{slice_get, slice_index_or}
use Rattle.std.specs.List.{list_any, range_with_len}
use Rattle.std.proofs.lemmas.Bool.{eq-eqb, eqb-true, or_left, or_right}
use Rattle.std.proofs.lemmas.List.Elements.{All-cons, All-nil, All-tail, All-weaker}
use Rattle.std.proofs.lemmas.List.FromFn.{length-range_with_len, get_or-range_with_len}
use Rattle.std.proofs.lemmas.Option.{slice_get-get_or, slice_get-map}
use Rattle.base_laws.specs.Sets.{has, members, with_members}
use Rattle.base_laws.proofs.SetLaws.{has-bit_and, has-empty, has-single_same, has-union_to, has-with_members}
use Rattle.base_laws.proofs.UnionLaws.{pair-left, pair-right}
use Rattle.mq_base.specs.declared.attr_set.AttrSet.{AttrSet}
use Rattle.mq_base.specs.declared.ids.AttrId.{AttrId}
use Rattle.mq_base.specs.declared.plan.PlanOp.{PlanOp}
use Rattle.mq_base.specs.declared.plan.PlanOp.TheVariants as op
use Rattle.mq_base.specs.declared.query.Agg.{Agg}
use Rattle.mq_base.specs.declared.query.CmpOp.{CmpOp}
use Rattle.mq_base.specs.declared.query.CmpOp.TheVariants.{Eq, Ne, Lt, Le, Gt, Ge}
use Rattle.mq_base.specs.declared.table.Scheme.{Scheme}
use Rattle.mq_base.specs.declared.table.Scheme.TheVariants.{Det, Ope}
use Rattle.plan_algebra.specs.declared.plan_facts.PlanFacts.{PlanFacts}
use Rattle.plan_algebra.specs.Facts.{node_at}
use Rattle.plan_algebra.specs.Families.{IsFamily, meets}
use Rattle.mq_base.specs.Schemes.{offers, supports}
use Rattle.key_clusters.specs.Asked.{equated_by, equated_set, extremes, is_extreme, is_order, ordered_by, ordered_set}
use Rattle.key_clusters.specs.Clusters.{least_of, least_scheme, root_family, scheme_for, scheme_in, set_in, set_of, wanted}
use Rattle.key_clusters.specs.Keys.{key_of}
use Rattle.key_clusters.specs.Laws.{IfPair, IsSupported, ShareKey, are_together}
use Rattle.key_clusters.specs.inside.Small.{IsSmallOp}
use Rattle.key_clusters.proofs.AskedLaws.{small-op}
use Rattle.key_clusters.proofs.CeilingLaws.{smaller-ope}
use Rattle.key_clusters.proofs.RootLaws.{root-joined}
use Rattle.key_clusters.proofs.TogetherLaws.{same-set}

-- attributes of one set have one key
pub shares-key : (facts : PlanFacts) (ceilings : List Scheme) (seed : List ℕ) (a b : ℕ) → IsFamily (root_family facts)
    → are_together a b (root_family facts) ≡ true → ShareKey facts ceilings seed a b
shares-key facts ceilings seed a b fam joined =
    let same : set_in facts a ≡ set_in facts b = same-set (root_family facts) a b fam joined in
    record {
      cluster = ap least_of same;
      scheme = ap (scheme_for facts ceilings) same;
      key = ap (λ set. key_of seed (least_of set) (scheme_for facts ceilings set)) same;
    }

pair_shares : (facts : PlanFacts) (ceilings : List Scheme) (seed : List ℕ) → IsFamily (root_family facts) → (o : PlanOp)
    → IfPair o (λ a b. are_together a b (root_family facts) ≡ true) → IfPair o (ShareKey facts ceilings seed)
pair_shares facts ceilings seed fam (op.SelAttr a cmp b) joined = shares-key facts ceilings seed a.0 b.0 fam joined
pair_shares facts ceilings seed fam (op.Join a cmp b) joined = shares-key facts ceilings seed a.0 b.0 fam joined
pair_shares facts ceilings seed fam _ joined = tt

pub compared-shares : (facts : PlanFacts) (ceilings : List Scheme) (seed : List ℕ) (n : ℕ) → IsFamily (root_family facts)
    → n < length facts.plan.nodes → IfPair (node_at facts.plan.nodes n).op (ShareKey facts ceilings seed)
compared-shares facts ceilings seed n fam below =
    pair_shares facts ceilings seed fam (node_at facts.plan.nodes n).op (root-joined facts n below)

-- an attribute is of its set
own_set : (family : List AttrSet) (a : ℕ) → has (set_of family a).0 a ≡ true
own_set [] a = has-single_same a
own_set (s ∷ rest) a = by_test (has s.0 a) refl (own_set rest a)
  where
    by_test : (b : Bool) → has s.0 a ≡ b → has (set_of rest a).0 a ≡ true → has (cond b s (set_of rest a)).0 a ≡ true
    by_test true inside later = inside
    by_test false outside later = later

-- sets with a common member meet
meets_at : (s t : AttrSet) (i : ℕ) → has s.0 i ≡ true → has t.0 i ≡ true → meets s t ≡ true
meets_at s t i left right = by_test (bit_and s.0 t.0 == 0) refl
  where
    by_test : (b : Bool) → (bit_and s.0 t.0 == 0) ≡ b → not b ≡ true
    by_test true empty =
        let common : has (bit_and s.0 t.0) i ≡ true = has-bit_and s.0 t.0 i ∙ rw (left, right) refl in
        let none : has (bit_and s.0 t.0) i ≡ false = ap (λ n. has n i) (eqb-true (bit_and s.0 t.0) 0 empty) ∙ has-empty i in
        cc
    by_test false some = refl

-- a scheme that supports whether values are equal
abbrev ServesEqual : Scheme → Type 0
ServesEqual scheme = (supports scheme Eq ≡ true) × (supports scheme Ne ≡ true)

wanted_ordered : (ordered equated set : AttrSet) → meets set ordered ≡ true → wanted ordered equated set ≡ Ope
wanted_ordered ordered equated set met = rw met refl

wanted_equated : (ordered equated set : AttrSet) → meets set equated ≡ true → ServesEqual (wanted ordered equated set)
wanted_equated ordered equated set met = rw met (by_test (meets set ordered))
  where
    by_test : (b : Bool) → ServesEqual (cond b Ope Det)
    by_test true = (refl, refl)
    by_test false = (refl, refl)

-- where no ceiling is below, none lowers
high_at : (ceilings : List Scheme) (a : ℕ) → All (λ c. c ≡ Ope) ceilings → slice_index_or ceilings a Ope ≡ Ope
high_at [] a high = refl
high_at (c ∷ rest) zero high = high 0 Ope (omega arith)
high_at (c ∷ rest) (suc a) high = high_at rest a (All-tail (λ d. d ≡ Ope) c rest high)

least_high : (ceilings : List Scheme) (xs : List ℕ) → All (λ c. c ≡ Ope) ceilings → least_scheme (map (λ a. slice_index_or ceilings a Ope) xs) ≡ Ope
least_high ceilings [] high = refl
least_high ceilings (a ∷ rest) high = rw (high_at ceilings a high) (least_high ceilings rest high)

scheme_high : (facts : PlanFacts) (ceilings : List Scheme) (a : ℕ) → All (λ c. c ≡ Ope) ceilings
    → scheme_in facts ceilings a ≡ wanted (ordered_set facts.plan.nodes) (equated_set facts.plan.nodes) (set_in facts a)
scheme_high facts ceilings a high =
    rw (least_high ceilings (members (set_in facts a).0) high)
    (smaller-ope (wanted (ordered_set facts.plan.nodes) (equated_set facts.plan.nodes) (set_in facts a)))

-- what is asked of an attribute its scheme serves
ordered_served : (facts : PlanFacts) (ceilings : List Scheme) (n a : ℕ) → All (λ c. c ≡ Ope) ceilings → n < length facts.plan.nodes
    → has (ordered_by (node_at facts.plan.nodes n).op) a ≡ true → scheme_in facts ceilings a ≡ Ope
ordered_served facts ceilings n a high below inside =
    scheme_high facts ceilings a high
    ∙ wanted_ordered (ordered_set facts.plan.nodes) (equated_set facts.plan.nodes) (set_in facts a)
    (meets_at (set_in facts a) (ordered_set facts.plan.nodes) a (own_set (root_family facts) a)
    (has-union_to (λ m. ordered_by (node_at facts.plan.nodes m).op) (length facts.plan.nodes) a n below inside))

equated_served : (facts : PlanFacts) (ceilings : List Scheme) (n a : ℕ) → All (λ c. c ≡ Ope) ceilings → n < length facts.plan.nodes
    → has (equated_by (node_at facts.plan.nodes n).op) a ≡ true → ServesEqual (scheme_in facts ceilings a)
equated_served facts ceilings n a high below inside =
    rw (scheme_high facts ceilings a high)
    (wanted_equated (ordered_set facts.plan.nodes) (equated_set facts.plan.nodes) (set_in facts a)
    (meets_at (set_in facts a) (equated_set facts.plan.nodes) a (own_set (root_family facts) a)
    (has-union_to (λ m. equated_by (node_at facts.plan.nodes m).op) (length facts.plan.nodes) a n below inside)))

-- the scheme at a place
offered : (f : ℕ → Scheme) (cmp : CmpOp) (a : ℕ) → a < 64 → supports (f a) cmp ≡ true → offers (map f (range_with_len 0 64)) cmp a ≡ true
offered f cmp a small holds =
    let there : slice_get (range_with_len 0 64) a ≡ Some a =
    slice_get-get_or (range_with_len 0 64) a 0 (rw length-range_with_len small) ∙ ap Some (get_or-range_with_len 0 64 a 0 small ∙ zero-add a) in
    rw (slice_get-map f (range_with_len 0 64) a, there) holds

ordered_or_equal : (cmp : CmpOp) (scheme : Scheme) → (is_order cmp ≡ true → scheme ≡ Ope) → (is_order cmp ≡ false → ServesEqual scheme)
    → supports scheme cmp ≡ true
ordered_or_equal Eq scheme order equal = (equal refl).0
ordered_or_equal Ne scheme order equal = (equal refl).1
ordered_or_equal Lt scheme order equal = rw (order refl) refl
ordered_or_equal Le scheme order equal = rw (order refl) refl
ordered_or_equal Gt scheme order equal = rw (order refl) refl
ordered_or_equal Ge scheme order equal = rw (order refl) refl

-- an attribute under MIN or MAX is ordered
extreme_listed : (aggs : List (AttrId × Agg))
    → All (λ (p : AttrId × Agg). is_extreme p.1 ≡ true → list_any (λ k. k == p.0.0) (extremes aggs) ≡ true) aggs
extreme_listed [] = All-nil (λ (p : AttrId × Agg). is_extreme p.1 ≡ true → list_any (λ k. k == p.0.0) [] ≡ true)
extreme_listed (q ∷ rest) =
    All-cons (λ (p : AttrId × Agg). is_extreme p.1 ≡ true → list_any (λ k. k == p.0.0) (extremes (q ∷ rest)) ≡ true) q rest
    (λ extreme. rw extreme (or_left (q.0.0 == q.0.0) (list_any (λ k. k == q.0.0) (extremes rest)) (eq-eqb q.0.0 q.0.0 refl)))
    (All-weaker (λ (p : AttrId × Agg). is_extreme p.1 ≡ true → list_any (λ k. k == p.0.0) (extremes rest) ≡ true)
    (λ (p : AttrId × Agg). is_extreme p.1 ≡ true → list_any (λ k. k == p.0.0) (extremes (q ∷ rest)) ≡ true)
    (λ p later extreme. by_test p (is_extreme q.1) refl (later extreme)) rest (extreme_listed rest))
  where
    by_test : (p : AttrId × Agg) (b : Bool) → is_extreme q.1 ≡ b → list_any (λ k. k == p.0.0) (extremes rest) ≡ true
        → list_any (λ k. k == p.0.0) (extremes (q ∷ rest)) ≡ true
    by_test p true here later = rw here (or_right (q.0.0 == p.0.0) (list_any (λ k. k == p.0.0) (extremes rest)) later)
    by_test p false other later = rw other later

extreme_has : (aggs : List (AttrId × Agg)) (i : ℕ) → list_any (λ k. k == i) (extremes aggs) ≡ true → has (with_members 0 (extremes aggs)) i ≡ true
extreme_has aggs i listed =
    has-with_members 0 (extremes aggs) i ∙ or_right (has 0 i) (list_any (λ k. k == i) (extremes aggs)) listed

-- what an operation asks for is supported
supported : (f : ℕ → Scheme) (o : PlanOp) → IsSmallOp o → ((a : ℕ) → has (ordered_by o) a ≡ true → f a ≡ Ope)
    → ((a : ℕ) → has (equated_by o) a ≡ true → ServesEqual (f a)) → IsSupported (map f (range_with_len 0 64)) o
supported f (op.SelConst a cmp x) small ordered equated =
    offered f cmp a.0 small
    (ordered_or_equal cmp (f a.0) (λ order. ordered a.0 (rw order (has-single_same a.0))) (λ equal. equated a.0 (rw equal (has-single_same a.0))))
supported f (op.SelAttr a cmp b) small ordered equated = (
  offered f cmp a.0 small.0
      (ordered_or_equal cmp (f a.0) (λ order. ordered a.0 (rw order (pair-left a.0 b.0))) (λ equal. equated a.0 (rw equal (pair-left a.0 b.0)))),
  offered f cmp b.0 small.1
      (ordered_or_equal cmp (f b.0) (λ order. ordered b.0 (rw order (pair-right a.0 b.0))) (λ equal. equated b.0 (rw equal (pair-right a.0 b.0)))),
)
supported f (op.Join a cmp b) small ordered equated = (
  offered f cmp a.0 small.0
      (ordered_or_equal cmp (f a.0) (λ order. ordered a.0 (rw order (pair-left a.0 b.0))) (λ equal. equated a.0 (pair-left a.0 b.0))),
  offered f cmp b.0 small.1
      (ordered_or_equal cmp (f b.0) (λ order. ordered b.0 (rw order (pair-right a.0 b.0))) (λ equal. equated b.0 (pair-right a.0 b.0))),
)
supported f (op.Group by aggs count) small ordered equated = (
  λ a below inside. offered f Eq a below (equated a inside).0,
  λ k d below extreme.
      let p = get_or aggs k d in
      offered f Lt p.0.0 (small k d below)
      (rw (ordered p.0.0 (extreme_has aggs p.0.0 (extreme_listed aggs k d below extreme))) refl),
)
supported f _ small ordered equated = tt

pub schemes-support : (facts : PlanFacts) (ceilings : List Scheme) (n : ℕ) → All (λ c. c ≡ Ope) ceilings → n < length facts.plan.nodes
    → IsSupported (map (scheme_in facts ceilings) (range_with_len 0 64)) (node_at facts.plan.nodes n).op
schemes-support facts ceilings n high below =
    supported (scheme_in facts ceilings) (node_at facts.plan.nodes n).op (small-op facts n below)
    (λ a inside. ordered_served facts ceilings n a high below inside) (λ a inside. equated_served facts ceilings n a high below inside)

pub ruleset laws = (shares-key, compared-shares, schemes-support)
