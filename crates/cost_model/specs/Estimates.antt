-- How many rows each node of a plan is reckoned to give, one equation a rule. docs/MODEL.md, "Estimates and costs", has the same
-- table in prose.
use Rattle.std.specs.Prelude.{◌≡◌, ℕ, ◌*◌, ◌-◌, ◌^◌, ◌≤◌, true, List, [], ◌∷◌, ◌++◌, length, map, max, min, replicate, slice_index}
use Rattle.std.specs.Int.{div_ceil}
use Rattle.base_laws.specs.Sets.{has, members}
use Rattle.mq_base.specs.declared.plan.PlanNode.{PlanNode}
use Rattle.mq_base.specs.declared.plan.PlanOp.{PlanOp}
use Rattle.mq_base.specs.declared.plan.PlanOp.TheVariants as op
use Rattle.mq_base.specs.declared.query.CmpOp.{CmpOp}
use Rattle.mq_base.specs.declared.query.CmpOp.TheVariants.{Eq, Ne}
use Rattle.plan_algebra.specs.declared.kind.Kind.{Kind}
use Rattle.plan_algebra.specs.declared.kind.Kind.TheVariants as kind
use Rattle.plan_algebra.specs.declared.plan_facts.PlanFacts.{PlanFacts}
use Rattle.plan_algebra.specs.Kinds.{kind_of}
use Rattle.policy_base.specs.declared.prices.Prices.{Prices}

-- a number cut at the largest of 64 bits
abbrev pub fit : ℕ → ℕ
fit n = min n (2 ^ 64 - 1)

-- the stated distinct values of an attribute
abbrev pub distinct_of : Prices → ℕ → ℕ
distinct_of prices a = slice_index prices.distinct a

-- of so many rows those that a comparison keeps, where there are so many distinct values; divisions round up
abbrev pub kept : CmpOp → ℕ → ℕ → ℕ
kept Eq distinct rows = div_ceil rows distinct
kept Ne distinct rows = rows
kept _ distinct rows = div_ceil rows 3

-- the product of these
abbrev pub product_of : List ℕ → ℕ
product_of [] = 1
product_of (n ∷ rest) = n * product_of rest

-- the combinations of the distinct values of the attributes in a set
abbrev pub combinations : Prices → ℕ → ℕ
combinations prices by = product_of (map (distinct_of prices) (members by))

-- the rule of a leaf: the stated rows of its table
abbrev pub leaf_rule : Prices → PlanOp → ℕ
leaf_rule prices (op.Base t used) = slice_index prices.rows t.0
leaf_rule prices _ = 0

-- the rule of an operation on one operand, by the operand's rows; a projection keeps all
abbrev pub one_rule : Prices → PlanOp → ℕ → ℕ
one_rule prices (op.SelConst a cmp x) rows = kept cmp (distinct_of prices a.0) rows
one_rule prices (op.SelCount cmp n) rows = div_ceil rows 3
one_rule prices (op.SelAttr a cmp b) rows = kept cmp (max (distinct_of prices a.0) (distinct_of prices b.0)) rows
one_rule prices (op.Group by aggs count) rows = min rows (combinations prices by.0)
one_rule prices _ rows = rows

-- the rule of an operation on two operands, by their rows: a product has each pair, and a join keeps some of these
abbrev pub two_rule : Prices → PlanOp → ℕ → ℕ → ℕ
two_rule prices (op.Join a cmp b) left right = kept cmp (max (distinct_of prices a.0) (distinct_of prices b.0)) (fit (left * right))
two_rule prices _ left right = left * right

-- the estimate of an operation, by those of the nodes that it stands on
abbrev pub estimate_by : Prices → (ℕ → ℕ) → PlanOp → Kind → ℕ
estimate_by prices rows op kind.Leaf = fit (leaf_rule prices op)
estimate_by prices rows op (kind.One x) = fit (one_rule prices op (rows x.0))
estimate_by prices rows op (kind.Two x y) = fit (two_rule prices op (rows x.0) (rows y.0))

-- the estimate of a node, by those of the nodes that it stands on
abbrev pub estimate_of : Prices → (ℕ → ℕ) → PlanNode → ℕ
estimate_of prices rows node = estimate_by prices rows node.op (kind_of node)

-- the estimates of nodes, after those of the nodes before them
abbrev pub estimates_after : Prices → List ℕ → List PlanNode → List ℕ
estimates_after prices earlier [] = earlier
estimates_after prices earlier (node ∷ rest) =
    estimates_after prices (earlier ++ estimate_of prices (slice_index earlier) node ∷ []) rest

-- the estimates of the nodes of a plan, in post-order
abbrev pub estimates_of : Prices → List PlanNode → List ℕ
estimates_of prices nodes = estimates_after prices [] nodes

-- 64 places, with 0 past the last of these
abbrev pub padded : List ℕ → List ℕ
padded rows = rows ++ replicate (64 - length rows) 0

-- each attribute that a plan uses has a distinct value at least
pub record IsPricedFor (facts : PlanFacts) (prices : Prices) : Type 0 where
  pub distinct : (a : ℕ) → has facts.used.0 a ≡ true → 1 ≤ distinct_of prices a

-- the attributes that an operation compares have a distinct value at least
abbrev pub HasDistinct : Prices → PlanOp → Type 0
HasDistinct prices (op.SelConst a cmp x) = 1 ≤ distinct_of prices a.0
HasDistinct prices (op.SelAttr a cmp b) = (1 ≤ distinct_of prices a.0) × (1 ≤ distinct_of prices b.0)
HasDistinct prices (op.Join a cmp b) = (1 ≤ distinct_of prices a.0) × (1 ≤ distinct_of prices b.0)
HasDistinct prices _ = Unit {0}
