-- What a node has, its leaves have: it is used by the plan.
use Rattle.std.proofs.Common.{◌≡◌, ℕ, zero, suc, ◌+◌, ◌<◌, true, List, length, bit_or, sym, ◌∙◌, arith}
use Rattle.base_laws.specs.Sets.{has, IsWithin}
use Rattle.base_laws.proofs.BoolLaws.{either}
use Rattle.base_laws.proofs.CutLaws.{within-common}
use Rattle.base_laws.proofs.SetLaws.{has-bit_or, has-union_to}
use Rattle.mq_base.specs.declared.plan.PlanNode.{PlanNode}
use Rattle.mq_base.specs.declared.plan.PlanOp.{PlanOp}
use Rattle.mq_base.specs.declared.plan.PlanOp.TheVariants as op
use Rattle.plan_algebra.specs.declared.facts.NodeFacts.{NodeFacts}
use Rattle.plan_algebra.specs.declared.kind.Kind.{Kind}
use Rattle.plan_algebra.specs.declared.kind.Kind.TheVariants as kind
use Rattle.plan_algebra.specs.Facts.{IsFacts, IsNodeAt, facts_at, group_set, leaf_set, leaves_set, node_at, one_facts, two_facts}
use Rattle.plan_algebra.specs.Kinds.{kind_of}

-- a node has what its operand has
one_within : (o : PlanOp) (f : NodeFacts) (i : ℕ) → has (one_facts o f).visible.0 i ≡ true → has f.visible.0 i ≡ true
one_within (op.Project kept) f i inside = (within-common f.visible.0 kept.0).member i inside
one_within (op.SelAttr a cmp b) f i inside = inside
one_within (op.Group by aggs count) f i inside = (within-common f.visible.0 (group_set by aggs)).member i inside
one_within _ f i inside = inside

both_within : (f g : NodeFacts) (s i : ℕ) → IsWithin f.visible.0 s → IsWithin g.visible.0 s
    → has (bit_or f.visible.0 g.visible.0) i ≡ true → has s i ≡ true
both_within f g s i first second inside =
    either (has f.visible.0 i) (has g.visible.0 i) (sym (has-bit_or f.visible.0 g.visible.0 i) ∙ inside)
    (first.member i) (second.member i)

two_within : (o : PlanOp) (f g : NodeFacts) (s i : ℕ) → IsWithin f.visible.0 s → IsWithin g.visible.0 s
    → has (two_facts o f g).visible.0 i ≡ true → has s i ≡ true
two_within (op.Join a cmp b) f g s i first second inside = both_within f g s i first second inside
two_within _ f g s i first second inside = both_within f g s i first second inside

-- what a leaf has is used
leaf_used : (facts : ℕ → NodeFacts) (n : ℕ) (o : PlanOp) (i : ℕ) → IsNodeAt facts n o kind.Leaf → has (facts n).visible.0 i ≡ true
    → has (leaf_set o) i ≡ true
leaf_used facts n (op.Base t used) i at inside = rw at at inside
leaf_used facts n _ i at inside = absurd at

-- what a node has is used
used_below : (nodes : List PlanNode) (facts : List NodeFacts) → IsFacts nodes facts → (bound n : ℕ) → n < bound → n < length nodes
    → IsWithin (facts_at facts n).visible.0 (leaves_set nodes)
used_below nodes facts are zero n below inside = absurd (omega (arith, below))
used_below nodes facts are (suc bound) n below inside =
    by_kind (kind_of (node_at nodes n)) (are.node n inside) (λ m under there. used_below nodes facts are bound m under there)
  where
    by_kind : (k : Kind) → IsNodeAt (facts_at facts) n (node_at nodes n).op k
        → ((m : ℕ) → m < bound → m < length nodes → IsWithin (facts_at facts m).visible.0 (leaves_set nodes))
        → IsWithin (facts_at facts n).visible.0 (leaves_set nodes)
    by_kind kind.Leaf at earlier = record {
      member = λ i has_it. has-union_to (λ m. leaf_set (node_at nodes m).op) (length nodes) i n inside
          (leaf_used (facts_at facts) n (node_at nodes n).op i at has_it);
    }
    by_kind (kind.One x) at earlier = record {
      member = λ i has_it. (earlier x.0 (omega (arith, at.below, below)) (omega (arith, at.below, inside))).member i
          (one_within (node_at nodes n).op (facts_at facts x.0) i (rw at.are at has_it));
    }
    by_kind (kind.Two x y) at earlier = record {
      member = λ i has_it. two_within (node_at nodes n).op (facts_at facts x.0) (facts_at facts y.0)
          (leaves_set nodes) i
          (earlier x.0 (omega (arith, at.left_below, at.right_below, below)) (omega (arith, at.left_below, at.right_below, inside)))
          (earlier y.0 (omega (arith, at.right_below, below)) (omega (arith, at.right_below, inside)))
          (rw at.are at has_it);
    }

pub visible-used : (nodes : List PlanNode) (facts : List NodeFacts) → IsFacts nodes facts → (n : ℕ) → n < length nodes
    → IsWithin (facts_at facts n).visible.0 (leaves_set nodes)
visible-used nodes facts are n inside = used_below nodes facts are (n + 1) n (omega arith) inside
