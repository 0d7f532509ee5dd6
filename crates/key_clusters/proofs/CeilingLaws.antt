-- Laws of the least ceiling of a set: one attribute on, from the first and at the end.
use Rattle.std.proofs.Common.{◌≡◌, ℕ, suc, ◌+◌, ◌-◌, ◌<◌, Bool, true, false, cond, List, ◌∷◌, filter, map, refl, sym, arith}
use Rattle.std.specs.Prelude.{slice_index_or}
use Rattle.std.specs.List.{range_with_len}
use Rattle.base_laws.specs.Sets.{has, members}
use Rattle.mq_base.specs.declared.attr_set.AttrSet.{AttrSet}
use Rattle.mq_base.specs.declared.table.Scheme.{Scheme}
use Rattle.mq_base.specs.declared.table.Scheme.TheVariants.{Rnd, Det, Ope}
use Rattle.key_clusters.specs.Clusters.{ceiling_of, least_scheme, smaller}

-- the least ceiling of the members from i on
abbrev pub ceiling_from : List Scheme → AttrSet → ℕ → Scheme
ceiling_from ceilings set i = least_scheme (map (λ a. slice_index_or ceilings a Ope) (filter (has set.0) (range_with_len i (64 - i))))

pub smaller-ope : (x : Scheme) → smaller x Ope ≡ x
smaller-ope Rnd = refl
smaller-ope Det = refl
smaller-ope Ope = refl

smaller_assoc : (x y z : Scheme) → smaller (smaller x y) z ≡ smaller x (smaller y z)
smaller_assoc Rnd y z = refl
smaller_assoc Ope y z = refl
smaller_assoc Det Rnd z = refl
smaller_assoc Det Ope z = refl
smaller_assoc Det Det Rnd = refl
smaller_assoc Det Det Det = refl
smaller_assoc Det Det Ope = refl

pub ceiling-start : (ceilings : List Scheme) (set : AttrSet) → ceiling_of ceilings set ≡ smaller Ope (ceiling_from ceilings set 0)
unfolding members
ceiling-start ceilings set = refl

pub ceiling-more : (ceilings : List Scheme) (set : AttrSet) (i : ℕ) (least : Scheme) → i < 64
    → smaller least (ceiling_from ceilings set i)
    ≡ smaller (cond (has set.0 i) (smaller least (slice_index_or ceilings i Ope)) least) (ceiling_from ceilings set (i + 1))
ceiling-more ceilings set i least below =
    let left : 64 - i ≡ suc (64 - (i + 1)) = omega arith in
    rw left (by_test (has set.0 i))
  where
    by_test : (b : Bool)
        → smaller least
        (least_scheme (map (λ a. slice_index_or ceilings a Ope)
        (cond b (i ∷ filter (has set.0) (range_with_len (i + 1) (64 - (i + 1)))) (filter (has set.0) (range_with_len (i + 1) (64 - (i + 1)))))))
        ≡ smaller (cond b (smaller least (slice_index_or ceilings i Ope)) least) (ceiling_from ceilings set (i + 1))
    by_test true =
        sym (smaller_assoc least (slice_index_or ceilings i Ope) (ceiling_from ceilings set (i + 1)))
    by_test false = refl

pub ceiling-end : (ceilings : List Scheme) (set : AttrSet) (least : Scheme) → smaller least (ceiling_from ceilings set 64) ≡ least
ceiling-end ceilings set least = smaller-ope least

pub ruleset ceilings = (ceiling-start, ceiling-more, ceiling-end)
