-- Attributes that a node compares are sealed alike, since they have one cluster.
use Rattle.std.proofs.Common.{◌≡◌, ℕ, ◌<◌, List, [], map, get_or, sym, ◌∙◌, ap, arith}
use Rattle.std.proofs.lemmas.List.FromFn.{get_or-map-range_with_len}
use Rattle.std.specs.List.{range_with_len}
use Rattle.extended_plan.specs.Setting.{kind_at, known_at, op_at}
use Rattle.key_clusters.specs.declared.assigned.Clusters.{Clusters}
use Rattle.key_clusters.specs.Clusters.{cluster_in, scheme_in}
use Rattle.key_clusters.specs.Keys as spec
use Rattle.key_clusters.specs.Keys.{cluster_at, key_at, scheme_at}
use Rattle.key_clusters.specs.Laws.{IfPair, ShareKey}
use Rattle.mq_base.specs.declared.plan.PlanOp.{PlanOp}
use Rattle.mq_base.specs.declared.plan.PlanOp.TheVariants as op
use Rattle.mq_base.specs.declared.table.Scheme.{Scheme}
use Rattle.plan_algebra.specs.declared.facts.NodeFacts.{NodeFacts}
use Rattle.plan_algebra.specs.declared.kind.Kind.{Kind}
use Rattle.plan_algebra.specs.declared.kind.Kind.TheVariants as kind
use Rattle.plan_algebra.specs.declared.plan_facts.PlanFacts.{PlanFacts}
use Rattle.plan_algebra.specs.Facts.{IsNodeAt}
use Rattle.provider_engine.specs.Decoding.{SealsAreShared, ShareSeals}
use Rattle.provider_engine.specs.Opening.{listed_key}

-- the attributes that a node compares are below 64
small_pair : (facts : ℕ → NodeFacts) (n : ℕ) (o : PlanOp) (k : Kind) → IsNodeAt facts n o k → IfPair o (λ a b. (a < 64) × (b < 64))
small_pair facts n (op.SelAttr a cmp b) kind.Leaf at = absurd at
small_pair facts n (op.SelAttr a cmp b) (kind.One x) at = (at.stands.0.small, at.stands.1.small)
small_pair facts n (op.SelAttr a cmp b) (kind.Two x y) at = absurd at.stands
small_pair facts n (op.Join a cmp b) kind.Leaf at = absurd at
small_pair facts n (op.Join a cmp b) (kind.One x) at = absurd at.stands
small_pair facts n (op.Join a cmp b) (kind.Two x y) at = (at.stands.1.small, at.stands.2.small)
small_pair facts n _ k at = tt

-- what is listed for the first 64 numbers, read at one
read_at : {X : Type 0} (f : ℕ → X) (xs : List X) (a : ℕ) (d : X) → a < 64 → xs ≡ map f (range_with_len 0 64) → get_or xs a d ≡ f a
read_at f xs a d small is =
    ap (λ ys. get_or ys a d) is ∙ get_or-map-range_with_len f 0 64 a a d small (omega arith)

two_alike : (clusters : Clusters) (facts : PlanFacts) (ceilings : List Scheme) (seed : List ℕ) (keys : List (List ℕ))
    → clusters.cluster ≡ map (cluster_in facts) (range_with_len 0 64) → clusters.scheme ≡ map (scheme_in facts ceilings) (range_with_len 0 64)
    → keys ≡ map (key_at seed clusters) (range_with_len 0 64) → (a b : ℕ) → a < 64 → b < 64 → ShareKey facts ceilings seed a b
    → ShareSeals clusters keys a b
two_alike clusters facts ceilings seed keys cluster scheme made a b small also share = record {
  scheme = its_scheme a small ∙ share.scheme ∙ sym (its_scheme b also);
  key = its_key a small ∙ share.key ∙ sym (its_key b also);
}
  where
    its_scheme : (i : ℕ) → i < 64 → scheme_at clusters i ≡ scheme_in facts ceilings i
    its_scheme i below = read_at (scheme_in facts ceilings) clusters.scheme i _ below scheme

    its_cluster : (i : ℕ) → i < 64 → cluster_at clusters i ≡ cluster_in facts i
    its_cluster i below = read_at (cluster_in facts) clusters.cluster i _ below cluster

    its_key : (i : ℕ) → i < 64 → listed_key keys i ≡ spec.key_of seed (cluster_in facts i) (scheme_in facts ceilings i)
    its_key i below =
        read_at (key_at seed clusters) keys i [] below made
        ∙ ap (λ c. spec.key_of seed c (scheme_at clusters i)) (its_cluster i below)
        ∙ ap (λ c. spec.key_of seed (cluster_in facts i) c) (its_scheme i below)

by_op : (clusters : Clusters) (facts : PlanFacts) (ceilings : List Scheme) (seed : List ℕ) (keys : List (List ℕ))
    → ((a b : ℕ) → a < 64 → b < 64 → ShareKey facts ceilings seed a b → ShareSeals clusters keys a b) → (o : PlanOp)
    → IfPair o (λ a b. (a < 64) × (b < 64)) → IfPair o (ShareKey facts ceilings seed) → IfPair o (ShareSeals clusters keys)
by_op clusters facts ceilings seed keys alike (op.SelAttr a cmp b) small share = alike a.0 b.0 small.0 small.1 share
by_op clusters facts ceilings seed keys alike (op.Join a cmp b) small share = alike a.0 b.0 small.0 small.1 share
by_op clusters facts ceilings seed keys alike _ small share = tt

pub seals_are_shared : SealsAreShared
seals_are_shared s ready facts ceilings seed keys cluster scheme made n inside share =
    by_op s.basis.clusters facts ceilings seed keys (two_alike s.basis.clusters facts ceilings seed keys cluster scheme made) (op_at s n)
    (small_pair (known_at s) n (op_at s n) (kind_at s n) (ready.facts.node n inside)) share
