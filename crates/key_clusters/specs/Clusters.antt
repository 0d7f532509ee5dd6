-- The cluster of each attribute, and the scheme under which its cells are sealed. docs/MODEL.md, "Clusters and keys", tells them in
-- prose.
use Rattle.std.specs.Prelude.{ℕ, ◌-◌, ◌^◌, List, [], ◌∷◌, length, map, slice_index_or, if◌then◌else◌}
use Rattle.std.specs.Int.{trailing_zeros, w64}
use Rattle.base_laws.specs.Sets.{has, members}
use Rattle.mq_base.specs.declared.attr_set.AttrSet.{AttrSet}
use Rattle.mq_base.specs.declared.ids.AttrId.{AttrId}
use Rattle.mq_base.specs.declared.table.Scheme.{Scheme}
use Rattle.mq_base.specs.declared.table.Scheme.TheVariants.{Rnd, Det, Ope}
use Rattle.plan_algebra.specs.declared.plan_facts.PlanFacts.{PlanFacts}
use Rattle.plan_algebra.specs.Facts.{facts_at}
use Rattle.plan_algebra.specs.Families.{meets}
use Rattle.key_clusters.specs.Asked.{equated_set, ordered_set}

-- the set of a family that has the attribute, or the attribute alone
abbrev pub set_of : List AttrSet → ℕ → AttrSet
set_of [] a = record { 0 = 2 ^ a }
set_of (s ∷ rest) a = if has s.0 a then s else set_of rest a

-- the least member of a set
abbrev pub least_of : AttrSet → AttrId
least_of set = record { 0 = trailing_zeros w64 set.0 }

-- the scheme that tells less of the two, in the order randomised, deterministic, order-preserving
abbrev pub smaller : Scheme → Scheme → Scheme
smaller Rnd other = Rnd
smaller Det Rnd = Rnd
smaller Det other = Det
smaller Ope other = other

-- the least of these schemes
abbrev pub least_scheme : List Scheme → Scheme
least_scheme [] = Ope
least_scheme (first ∷ rest) = smaller first (least_scheme rest)

-- the least ceiling of the members of a set, where each attribute has the ceiling at its place
abbrev pub ceiling_of : List Scheme → AttrSet → Scheme
ceiling_of ceilings set = least_scheme (map (λ a. slice_index_or ceilings a Ope) (members set.0))

-- the scheme that serves what is asked of a set: of these attributes order is asked, and of those equality
abbrev pub wanted : AttrSet → AttrSet → AttrSet → Scheme
wanted ordered equated set = if meets set ordered then Ope else if meets set equated then Det else Rnd

-- the sets that the whole plan makes equivalent
abbrev pub root_family : PlanFacts → List AttrSet
root_family facts = (facts_at facts.nodes (length facts.plan.nodes - 1)).eq

-- the set of an attribute in a plan
abbrev pub set_in : PlanFacts → ℕ → AttrSet
set_in facts a = set_of (root_family facts) a

-- the cluster of an attribute in a plan
abbrev pub cluster_in : PlanFacts → ℕ → AttrId
cluster_in facts a = least_of (set_in facts a)

-- the scheme of a set in a plan: what is wanted, and never more than the ceiling
abbrev pub scheme_for : PlanFacts → List Scheme → AttrSet → Scheme
scheme_for facts ceilings set = smaller (wanted (ordered_set facts.plan.nodes) (equated_set facts.plan.nodes) set) (ceiling_of ceilings set)

-- the scheme of an attribute in a plan
abbrev pub scheme_in : PlanFacts → List Scheme → ℕ → Scheme
scheme_in facts ceilings a = scheme_for facts ceilings (set_in facts a)
