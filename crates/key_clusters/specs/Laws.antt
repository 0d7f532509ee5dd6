-- What clusters are for: attributes that a plan compares or merges have one key, and schemes support what the plan asks.
-- docs/MODEL.md, "Clusters and keys", tells it in prose.
use Rattle.std.specs.Prelude.{◌≡◌, ℕ, ◌<◌, Bool, true, ◌&&◌, List, All}
use Rattle.std.specs.List.{list_any}
use Rattle.base_laws.specs.Sets.{has}
use Rattle.mq_base.specs.declared.attr_set.AttrSet.{AttrSet}
use Rattle.mq_base.specs.declared.ids.AttrId.{AttrId}
use Rattle.mq_base.specs.declared.plan.PlanOp.{PlanOp}
use Rattle.mq_base.specs.declared.plan.PlanOp.TheVariants as op
use Rattle.mq_base.specs.declared.query.Agg.{Agg}
use Rattle.mq_base.specs.declared.query.CmpOp.TheVariants.{Eq, Lt}
use Rattle.mq_base.specs.declared.table.Scheme.{Scheme}
use Rattle.plan_algebra.specs.declared.plan_facts.PlanFacts.{PlanFacts}
use Rattle.key_clusters.specs.Asked.{is_extreme}
use Rattle.key_clusters.specs.Clusters.{cluster_in, scheme_in}
use Rattle.key_clusters.specs.Keys.{key_of}
use Rattle.mq_base.specs.Schemes.{offers}

-- whether two attributes stand in one set of a family
abbrev pub are_together : ℕ → ℕ → List AttrSet → Bool
are_together a b family = list_any (λ (s : AttrSet). has s.0 a && has s.0 b) family

-- the key of an attribute in a plan
abbrev pub key_in : PlanFacts → List Scheme → List ℕ → ℕ → List ℕ
key_in facts ceilings seed a = key_of seed (cluster_in facts a) (scheme_in facts ceilings a)

-- two attributes have one cluster, one scheme and one key
pub record ShareKey (facts : PlanFacts) (ceilings : List Scheme) (seed : List ℕ) (a b : ℕ) : Type 0 where
  pub cluster : cluster_in facts a ≡ cluster_in facts b
  pub scheme : scheme_in facts ceilings a ≡ scheme_in facts ceilings b
  pub key : key_in facts ceilings seed a ≡ key_in facts ceilings seed b

-- what is said of the two attributes that an operation compares, where it compares two
abbrev pub IfPair : PlanOp → (ℕ → ℕ → Type 0) → Type 0
IfPair (op.SelAttr a cmp b) say = say a.0 b.0
IfPair (op.Join a cmp b) say = say a.0 b.0
IfPair _ say = Unit {0}

-- a function over the values of an attribute: for MIN and MAX its scheme supports order
abbrev pub IsFoldable : List Scheme → AttrId × Agg → Type 0
IsFoldable schemes p = is_extreme p.1 ≡ true → offers schemes Lt p.0.0 ≡ true

-- the schemes support each comparison, grouping, MIN and MAX of an operation
abbrev pub IsSupported : List Scheme → PlanOp → Type 0
IsSupported schemes (op.SelConst a cmp x) = offers schemes cmp a.0 ≡ true
IsSupported schemes (op.SelAttr a cmp b) = (offers schemes cmp a.0 ≡ true) × (offers schemes cmp b.0 ≡ true)
IsSupported schemes (op.Join a cmp b) = (offers schemes cmp a.0 ≡ true) × (offers schemes cmp b.0 ≡ true)
IsSupported schemes (op.Group by aggs count) =
    ((a : ℕ) → a < 64 → has by.0 a ≡ true → offers schemes Eq a ≡ true) × All (IsFoldable schemes) aggs
IsSupported schemes _ = Unit {0}
