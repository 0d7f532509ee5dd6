-- Estimates and costs of worked queries, computed; the values are worked out by hand from the tables of docs/MODEL.md, "Estimates
-- and costs".
use Rattle.std.proofs.Common.{◌≡◌, ℕ, ◌+◌, ◌-◌, ◌^◌, pos, false, List, [], ◌∷◌, codes, map, replicate, refl}
use Rattle.base_laws.specs.Sets.{members}
use Rattle.mq_base.specs.declared.attr_set.AttrSet.{AttrSet}
use Rattle.mq_base.specs.declared.ids.AttrId.{AttrId}
use Rattle.mq_base.specs.declared.ids.NodeId.{NodeId}
use Rattle.mq_base.specs.declared.ids.SubjectId.{SubjectId}
use Rattle.mq_base.specs.declared.ids.TableId.{TableId}
use Rattle.mq_base.specs.declared.plan.PlanOp.TheVariants as op
use Rattle.mq_base.specs.declared.plan.Step.TheVariants as step
use Rattle.mq_base.specs.declared.query.Agg.TheVariants as agg
use Rattle.mq_base.specs.declared.query.CmpOp.TheVariants.{Eq, Gt, Ge}
use Rattle.mq_base.specs.declared.schema.AttrInfo.{AttrInfo}
use Rattle.mq_base.specs.declared.table.Scheme.{Scheme}
use Rattle.mq_base.specs.declared.table.Scheme.TheVariants.{Rnd, Det, Ope}
use Rattle.mq_base.specs.declared.value.Value.TheVariants.{Int, Text}
use Rattle.mq_base.specs.declared.value.ValueType.{ValueType}
use Rattle.mq_base.specs.declared.value.ValueType.TheVariants as type
use Rattle.plan_algebra.specs.Facts.{facts_of}
use Rattle.plan_algebra.specs.Nodes.{nodes_of, subtrees}
use Rattle.plan_algebra.specs.Tree.{Tree, Leaf, One, Two}
use Rattle.policy_base.specs.declared.prices.Prices.{Prices}
use Rattle.relation_profile.specs.declared.view.View.{View}
use Rattle.cost_model.specs.Costs.{Basis, cut, step_work}
use Rattle.cost_model.specs.Estimates.{estimates_of, fit, padded, two_rule}

abbrev attribute : ℕ → AttrId
attribute a = record { 0 = a }

abbrev set : ℕ → AttrSet
set s = record { 0 = s }

abbrev table : ℕ → TableId
table t = record { 0 = t }

abbrev node : ℕ → NodeId
node n = record { 0 = n }

abbrev subject : ℕ → SubjectId
subject s = record { 0 = s }

abbrev sealed : ℕ → View
sealed s = record { enc = set s; ip = set 0; ie = set 0 }

abbrev prices : List ℕ → List ℕ → List ℕ → Prices
prices cpu rows distinct = record { cpu = cpu; net = replicate 16 (replicate 16 1); rows = rows; distinct = distinct }

abbrev column : ValueType → AttrInfo
column ty = record { name = []; ty = ty; table = table 0 }

abbrev basis : Tree → List Scheme → Prices → List ValueType → Basis
basis x schemes stated types = record {
  nodes = nodes_of 0 x;
  facts = map facts_of (subtrees x);
  rows = padded (estimates_of stated (nodes_of 0 x));
  clusters = record { cluster = []; scheme = schemes };
  prices = stated;
  schema = record { tables = []; attrs = map column types };
}

-- SELECT b, d FROM r, s WHERE a = c, where r has a and b (0 and 1), s has c and d (2 and 3); the subjects are A, B, X and U
abbrev joined : Tree
joined = One (op.Project (set 10)) (Two (op.Join (attribute 0) Eq (attribute 2)) (Leaf (table 0) (set 3)) (Leaf (table 1) (set 12)))

abbrev small_prices : Prices
small_prices = prices (1 ∷ 1 ∷ 1 ∷ 200 ∷ []) (10 ∷ 20 ∷ []) (10 ∷ 10 ∷ 20 ∷ 20 ∷ [])

abbrev joined_basis : Basis
joined_basis = basis joined (Det ∷ Rnd ∷ Det ∷ Rnd ∷ []) small_prices (type.Int ∷ type.Int ∷ type.Int ∷ type.Int ∷ [])

joined_rows : estimates_of small_prices (nodes_of 0 joined) ≡ 10 ∷ 20 ∷ 10 ∷ 10 ∷ []
joined_rows = refl

-- join on deterministic cells: a and b are sealed at A and sent, c and d at B; X joins and projects; U opens b and d
joined_costs :
    step_work joined_basis (step.Base (table 0)) 0 0 (sealed 0)
    ∷ step_work joined_basis (step.Enc (attribute 0)) 0 0 (sealed 0)
    ∷ step_work joined_basis (step.Enc (attribute 1)) 0 0 (sealed 1)
    ∷ step_work joined_basis (step.Send (subject 2)) 0 0 (sealed 3)
    ∷ step_work joined_basis (step.Enc (attribute 2)) 1 1 (sealed 0)
    ∷ step_work joined_basis (step.Enc (attribute 3)) 1 1 (sealed 4)
    ∷ step_work joined_basis (step.Send (subject 2)) 1 1 (sealed 12)
    ∷ step_work joined_basis (step.Bin (node 2)) 2 2 (sealed 0)
    ∷ step_work joined_basis (step.Un (node 3)) 2 3 (sealed 0)
    ∷ step_work joined_basis (step.Send (subject 3)) 2 3 (sealed 10)
    ∷ step_work joined_basis (step.Dec (attribute 1)) 3 3 (sealed 10)
    ∷ step_work joined_basis (step.Dec (attribute 3)) 3 3 (sealed 8)
    ∷ []
    ≡ 0 ∷ 40 ∷ 10 ∷ 440 ∷ 80 ∷ 20 ∷ 880 ∷ 40 ∷ 10 ∷ 560 ∷ 2000 ∷ 2000 ∷ []
unfolding members
joined_costs = refl

-- SELECT b, d FROM r, s WHERE a = c AND a >= 2
abbrev selected : Tree
selected =
    One (op.Project (set 10))
    (Two (op.Join (attribute 0) Eq (attribute 2)) (One (op.SelConst (attribute 0) Ge (Int (pos 2))) (Leaf (table 0) (set 3))) (Leaf (table 1) (set 12)))

abbrev selected_basis : Basis
selected_basis = basis selected (Ope ∷ Rnd ∷ Ope ∷ Rnd ∷ []) small_prices (type.Int ∷ type.Int ∷ type.Int ∷ type.Int ∷ [])

selected_rows : estimates_of small_prices (nodes_of 0 selected) ≡ 10 ∷ 4 ∷ 20 ∷ 4 ∷ 4 ∷ []
selected_rows = refl

-- join on order-preserving cells
selected_costs :
    step_work selected_basis (step.Enc (attribute 0)) 0 0 (sealed 0)
    ∷ step_work selected_basis (step.Un (node 1)) 0 1 (sealed 0)
    ∷ step_work selected_basis (step.Enc (attribute 1)) 0 1 (sealed 1)
    ∷ step_work selected_basis (step.Send (subject 2)) 0 1 (sealed 3)
    ∷ step_work selected_basis (step.Enc (attribute 2)) 1 2 (sealed 0)
    ∷ step_work selected_basis (step.Enc (attribute 3)) 1 2 (sealed 4)
    ∷ step_work selected_basis (step.Send (subject 2)) 1 2 (sealed 12)
    ∷ step_work selected_basis (step.Bin (node 3)) 2 3 (sealed 0)
    ∷ step_work selected_basis (step.Un (node 4)) 2 4 (sealed 0)
    ∷ step_work selected_basis (step.Send (subject 3)) 2 4 (sealed 10)
    ∷ step_work selected_basis (step.Dec (attribute 1)) 3 4 (sealed 10)
    ∷ step_work selected_basis (step.Dec (attribute 3)) 3 4 (sealed 8)
    ∷ []
    ≡ 640 ∷ 10 ∷ 4 ∷ 240 ∷ 1280 ∷ 20 ∷ 1200 ∷ 28 ∷ 4 ∷ 224 ∷ 800 ∷ 800 ∷ []
unfolding members
selected_costs = refl

-- SELECT T, SUM(P) FROM Hosp JOIN Ins ON S = C WHERE D = 'stroke' GROUP BY T HAVING SUM(P) > 100, where Hosp has S, B, D and T
-- (0 to 3), Ins has C and P (4 and 5), and the subjects are H, I, U, X, Y and Z
abbrev hospital : Tree
hospital =
    One (op.SelConst (attribute 5) Gt (Int (pos 100)))
    (One (op.Group (set 8) ((attribute 5, agg.Sum) ∷ []) false)
    (Two (op.Join (attribute 0) Eq (attribute 4)) (One (op.SelConst (attribute 2) Eq (Text (codes "stroke"))) (Leaf (table 0) (set 13)))
    (Leaf (table 1) (set 48))))

abbrev hospital_prices : Prices
hospital_prices = prices (10 ∷ 10 ∷ 100 ∷ 1 ∷ 2 ∷ 1 ∷ []) (1000 ∷ 5000 ∷ []) (1000 ∷ 100 ∷ 50 ∷ 20 ∷ 5000 ∷ 1000 ∷ [])

abbrev hospital_basis : Basis
hospital_basis =
    basis hospital (Det ∷ Rnd ∷ Det ∷ Det ∷ Det ∷ Ope ∷ []) hospital_prices
    (type.Int ∷ type.Int ∷ type.Text ∷ type.Text ∷ type.Int ∷ type.Int ∷ [])

hospital_rows : estimates_of hospital_prices (nodes_of 0 hospital) ≡ 1000 ∷ 20 ∷ 5000 ∷ 20 ∷ 20 ∷ 7 ∷ []
unfolding members
hospital_rows = refl

-- H selects, seals S and sends; I seals C and sends; Y joins, groups, selects and sends
hospital_costs :
    step_work hospital_basis (step.Un (node 1)) 0 1 (sealed 0)
    ∷ step_work hospital_basis (step.Enc (attribute 0)) 0 1 (sealed 0)
    ∷ step_work hospital_basis (step.Send (subject 4)) 0 1 (sealed 1)
    ∷ step_work hospital_basis (step.Enc (attribute 4)) 1 2 (sealed 0)
    ∷ step_work hospital_basis (step.Send (subject 4)) 1 2 (sealed 16)
    ∷ step_work hospital_basis (step.Bin (node 3)) 4 3 (sealed 0)
    ∷ step_work hospital_basis (step.Un (node 4)) 4 4 (sealed 0)
    ∷ step_work hospital_basis (step.Un (node 5)) 4 5 (sealed 0)
    ∷ step_work hospital_basis (step.Send (subject 2)) 4 5 (sealed 0)
    ∷ []
    ≡ 10000 ∷ 800 ∷ 5200 ∷ 200000 ∷ 160000 ∷ 10080 ∷ 40 ∷ 40 ∷ 966 ∷ []
unfolding members
hospital_costs = refl

-- the cuts: 2^64 - 1 is (2^32 - 1) * (2^32 + 1)
product_below : fit (two_rule small_prices op.Product (2 ^ 32 - 1) (2 ^ 32 + 1)) ≡ 2 ^ 64 - 1
product_below = refl

product_above : fit (two_rule small_prices op.Product (2 ^ 32) (2 ^ 32)) ≡ 2 ^ 64 - 1
product_above = refl

-- a join cuts the product before it divides
join_cuts_first : two_rule small_prices (op.Join (attribute 0) Eq (attribute 2)) (2 ^ 32) (2 ^ 33) ≡ 922337203685477581
join_cuts_first = refl

cost_below : cut (2 ^ 128 - 1) ≡ 2 ^ 128 - 1
cost_below = refl

cost_above : cut (2 ^ 128) ≡ 2 ^ 128 - 1
cost_above = refl
