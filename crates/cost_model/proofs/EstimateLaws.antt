-- What the loop over the nodes keeps: the estimates of the nodes so far, each by those of its operands, and 0 past them.
use Rattle.std.proofs.Common.{◌≡◌, ℕ, zero, suc, ◌+◌, ◌-◌, ◌<◌, ◌≤◌, List, [], ◌∷◌, ◌++◌, length, replicate, set, take, refl, sym, ◌∙◌, ap, append_assoc, arith, ◌⊎◌, inl, inr}
use Rattle.std.specs.Prelude.{slice_index}
use Rattle.std.proofs.lemmas.List.{length-append, length-replicate, length-take-le, set_at, take_all, take_more}
use Rattle.std.proofs.lemmas.Grind.{common_steps, get_or-set_at}
use Rattle.mq_base.specs.declared.plan.PlanNode.{PlanNode}
use Rattle.mq_base.specs.declared.plan.PlanOp.{PlanOp}
use Rattle.plan_algebra.specs.declared.facts.NodeFacts.{NodeFacts}
use Rattle.plan_algebra.specs.declared.kind.Kind.{Kind}
use Rattle.plan_algebra.specs.declared.kind.Kind.TheVariants as kind
use Rattle.plan_algebra.specs.declared.plan_facts.PlanFacts.{PlanFacts}
use Rattle.plan_algebra.specs.Facts.{IsNodeAt, facts_at, node_at}
use Rattle.plan_algebra.specs.Nodes.{leaf_node}
use Rattle.plan_algebra.specs.Kinds.{kind_of}
use Rattle.policy_base.specs.declared.prices.Prices.{Prices}
use Rattle.cost_model.specs.Estimates.{estimate_by, estimate_of, estimates_after, estimates_of, padded, two_rule, one_rule, fit}

-- the estimate of a node looks at its operands alone
same_by : (prices : Prices) (f g : ℕ → ℕ) (o : PlanOp) (k : Kind) → ((m : ℕ) → f m ≡ g m) → estimate_by prices f o k ≡ estimate_by prices g o k
same_by prices f g o kind.Leaf same = refl
same_by prices f g o (kind.One x) same = ap (λ r. fit (one_rule prices o r)) (same x.0)
same_by prices f g o (kind.Two x y) same =
    ap (λ l. fit (two_rule prices o l (f y.0))) (same x.0) ∙ ap (λ r. fit (two_rule prices o (g x.0) r)) (same y.0)

below_by : (prices : Prices) (facts : ℕ → NodeFacts) (f g : ℕ → ℕ) (n : ℕ) (o : PlanOp) (k : Kind) → IsNodeAt facts n o k
    → ((m : ℕ) → m < n → f m ≡ g m) → estimate_by prices f o k ≡ estimate_by prices g o k
below_by prices facts f g n o kind.Leaf at same = refl
below_by prices facts f g n o (kind.One x) at same = ap (λ r. fit (one_rule prices o r)) (same x.0 at.below)
below_by prices facts f g n o (kind.Two x y) at same =
    ap (λ l. fit (two_rule prices o l (f y.0))) (same x.0 (omega (arith, at.left_below, at.right_below)))
    ∙ ap (λ r. fit (two_rule prices o (g x.0) r)) (same y.0 at.right_below)

-- one node more
after-push : (prices : Prices) (earlier : List ℕ) (nodes : List PlanNode) (node : PlanNode)
    → estimates_after prices earlier (nodes ++ node ∷ [])
    ≡ estimates_after prices earlier nodes ++ estimate_of prices (slice_index (estimates_after prices earlier nodes)) node ∷ []
after-push prices earlier [] node = refl
after-push prices earlier (first ∷ rest) node =
    after-push prices (earlier ++ estimate_of prices (slice_index earlier) first ∷ []) rest node

length-after : (prices : Prices) (earlier : List ℕ) (nodes : List PlanNode)
    → length (estimates_after prices earlier nodes) ≡ length earlier + length nodes
length-after prices earlier [] = omega arith
length-after prices earlier (first ∷ rest) =
    length-after prices (earlier ++ estimate_of prices (slice_index earlier) first ∷ []) rest ∙ simp length-append (omega arith)

-- what is put past the end changes no reading
padded-reads : (n : ℕ) (xs : List ℕ) (m : ℕ) → slice_index (xs ++ replicate n 0) m ≡ slice_index xs m
padded-reads zero [] m = refl
padded-reads (suc n) [] zero = refl
padded-reads (suc n) [] (suc m) = padded-reads n [] m
padded-reads n (x ∷ xs) zero = refl
padded-reads n (x ∷ xs) (suc m) = padded-reads n xs m

padded-long : (xs : List ℕ) → 64 ≤ length (padded xs)
padded-long xs = simp (length-append, length-replicate) (omega arith)

padded-more : (xs : List ℕ) (value n : ℕ) → length xs ≡ n → n < 64 → set (padded xs) n value ≡ padded (xs ++ value ∷ [])
padded-more xs value n long below =
    let left : 64 - length xs ≡ suc (64 - length (xs ++ value ∷ [])) = simp length-append (omega (arith, long, below)) in
    rw (left, append_assoc) (set_at xs 0 (replicate (64 - length (xs ++ value ∷ [])) 0) value n long)

long_enough : (prices : Prices) (nodes : List PlanNode) (n : ℕ) → n ≤ length nodes → length (estimates_of prices (take n nodes)) ≡ n
long_enough prices nodes n within = omega (arith, length-after prices [] (take n nodes), length-take-le n nodes within)

pub list-start : (prices : Prices) (nodes : List PlanNode) → replicate 64 0 ≡ padded (estimates_of prices (take 0 nodes))
list-start prices nodes = refl

pub list-more : (prices : Prices) (nodes : List PlanNode) (n : ℕ) (rows : List ℕ) (value : ℕ) → n < length nodes → length nodes ≤ 64
    → rows ≡ padded (estimates_of prices (take n nodes)) → value ≡ estimate_of prices (slice_index rows) (node_at nodes n)
    → set rows n value ≡ padded (estimates_of prices (take (n + 1) nodes))
list-more prices nodes n rows value below few made is =
    let long : length (estimates_of prices (take n nodes)) ≡ n = long_enough prices nodes n (omega (arith, below)) in
    let reads : estimate_of prices (slice_index rows) (node_at nodes n) ≡ estimate_of prices (slice_index (estimates_of prices (take n nodes))) (node_at nodes n)
    = same_by prices (slice_index rows) (slice_index (estimates_of prices (take n nodes))) (node_at nodes n).op (kind_of (node_at nodes n))
    (λ m. ap (λ xs. slice_index xs m) made ∙ padded-reads (64 - length (estimates_of prices (take n nodes))) (estimates_of prices (take n nodes)) m) in
    rw (take_more nodes n (leaf_node (record { 0 = 0 }) (record { 0 = 0 })) below, after-push prices [] (take n nodes) (node_at nodes n), ← reads, ← is)
    (ap (λ xs. set xs n value) made ∙ padded-more (estimates_of prices (take n nodes)) value n long (omega (arith, below, few)))

pub list-end : (prices : Prices) (nodes : List PlanNode) (n : ℕ) (rows : List ℕ) → length nodes ≤ n
    → rows ≡ padded (estimates_of prices (take n nodes)) → rows ≡ padded (estimates_of prices nodes)
list-end prices nodes n rows past made = made ∙ ap (λ xs. padded (estimates_of prices xs)) (take_all n nodes past)

-- each node so far is estimated by its operands
pub record AreByRule (facts : PlanFacts) (prices : Prices) (n : ℕ) (rows : List ℕ) : Type 0 where
  pub node : (k : ℕ) → k < n → slice_index rows k ≡ estimate_of prices (slice_index rows) (node_at facts.plan.nodes k)

pub rule-start : (facts : PlanFacts) (prices : Prices) (rows : List ℕ) → AreByRule facts prices 0 rows
rule-start facts prices rows = record { node = λ k below. absurd (omega (arith, below)) }

pub rule-more : (facts : PlanFacts) (prices : Prices) (n : ℕ) (rows : List ℕ) (value : ℕ) → n < length facts.plan.nodes → length facts.plan.nodes ≤ 64
    → rows ≡ padded (estimates_of prices (take n facts.plan.nodes)) → AreByRule facts prices n rows → value ≡ estimate_of prices (slice_index rows) (node_at facts.plan.nodes n)
    → AreByRule facts prices (n + 1) (set rows n value)
rule-more facts prices n rows value below few made are is = record { node = λ k upto. by_place k (places k n upto) }
  where
    room : n < length rows
    room = rw made (omega (arith, below, few, padded-long (estimates_of prices (take n facts.plan.nodes))))

    places : (k n : ℕ) → k < n + 1 → (k < n) ⊎ (k ≡ n)
    places k n upto = grind arith

    other : (m : ℕ) → m < n → slice_index (set rows n value) m ≡ slice_index rows m
    other m before = grind (arith, common_steps)

    here : slice_index (set rows n value) n ≡ value
    here = get_or-set_at rows n n value 0 refl room

    kept : (k : ℕ) → k ≤ n → estimate_of prices (slice_index rows) (node_at facts.plan.nodes k)
        ≡ estimate_of prices (slice_index (set rows n value)) (node_at facts.plan.nodes k)
    kept k upto =
        below_by prices (facts_at facts.nodes) (slice_index rows) (slice_index (set rows n value)) k (node_at facts.plan.nodes k).op
        (kind_of (node_at facts.plan.nodes k)) (facts.are_facts.node k (omega (arith, upto, below)))
        (λ m under. sym (other m (omega (arith, under, upto))))

    by_place : (k : ℕ) → (k < n) ⊎ (k ≡ n)
        → slice_index (set rows n value) k ≡ estimate_of prices (slice_index (set rows n value)) (node_at facts.plan.nodes k)
    by_place k (inl before) = other k before ∙ are.node k before ∙ kept k (omega (arith, before))
    by_place k (inr last) = rw last (here ∙ is ∙ kept n (omega arith))
