-- Clusters and schemes of small queries, computed; the values are worked out by hand from docs/MODEL.md, "Clusters and keys".
use lib.Count.{count_trailing_zeros}
use Rattle.std.proofs.Common.{◌≡◌, ℕ, pos, false, List, [], ◌∷◌, codes, map, replicate, refl}
use Rattle.std.specs.List.{range_with_len}
use Rattle.base_laws.specs.Sets.{members}
use Rattle.mq_base.specs.declared.attr_set.AttrSet.{AttrSet}
use Rattle.mq_base.specs.declared.ids.AttrId.{AttrId}
use Rattle.mq_base.specs.declared.ids.TableId.{TableId}
use Rattle.mq_base.specs.declared.plan.PlanOp.TheVariants as op
use Rattle.mq_base.specs.declared.query.Agg.{Agg}
use Rattle.mq_base.specs.declared.query.Agg.TheVariants as agg
use Rattle.mq_base.specs.declared.query.CmpOp.TheVariants.{Eq, Gt, Ge}
use Rattle.mq_base.specs.declared.table.Scheme.{Scheme}
use Rattle.mq_base.specs.declared.table.Scheme.TheVariants.{Rnd, Det, Ope}
use Rattle.mq_base.specs.declared.value.Value.TheVariants.{Int, Text}
use Rattle.plan_algebra.specs.Facts.{facts_of}
use Rattle.plan_algebra.specs.Nodes.{nodes_of}
use Rattle.plan_algebra.specs.Tree.{Tree, Leaf, One, Two}
use Rattle.key_clusters.specs.Asked.{equated_set, ordered_set}
use Rattle.key_clusters.specs.Clusters.{ceiling_of, least_of, set_of, smaller, wanted}

abbrev attribute : ℕ → AttrId
attribute a = record { 0 = a }

abbrev set : ℕ → AttrSet
set s = record { 0 = s }

abbrev table : ℕ → TableId
table t = record { 0 = t }

-- the clusters of the first n attributes in the plan of a tree, and their schemes under these ceilings
abbrev clusters_in : Tree → ℕ → List ℕ
clusters_in x n = map (λ a. (least_of (set_of (facts_of x).eq a)).0) (range_with_len 0 n)

abbrev scheme_of_set : Tree → List Scheme → AttrSet → Scheme
scheme_of_set x ceilings s = smaller (wanted (ordered_set (nodes_of 0 x)) (equated_set (nodes_of 0 x)) s) (ceiling_of ceilings s)

abbrev schemes_in : Tree → List Scheme → ℕ → List Scheme
schemes_in x ceilings n = map (λ a. scheme_of_set x ceilings (set_of (facts_of x).eq a)) (range_with_len 0 n)

abbrev high : List Scheme
high = replicate 64 Ope

-- SELECT b, d FROM r, s WHERE a = c, where r has a and b (0 and 1), s has c and d (2 and 3)
abbrev joined : Tree
joined = One (op.Project (set 10)) (Two (op.Join (attribute 0) Eq (attribute 2)) (Leaf (table 0) (set 3)) (Leaf (table 1) (set 12)))

joined_clusters : clusters_in joined 5 ≡ 0 ∷ 1 ∷ 0 ∷ 3 ∷ 4 ∷ []
unfolding count_trailing_zeros
joined_clusters = refl

joined_schemes : schemes_in joined high 5 ≡ Det ∷ Rnd ∷ Det ∷ Rnd ∷ Rnd ∷ []
unfolding members
joined_schemes = refl

-- a ceiling on c lowers a as well
joined_lowered : schemes_in joined (Ope ∷ Ope ∷ Rnd ∷ replicate 61 Ope) 4 ≡ Rnd ∷ Rnd ∷ Rnd ∷ Rnd ∷ []
unfolding members
joined_lowered = refl

-- SELECT b, d FROM r, s WHERE a = c AND a >= 2
abbrev selected : Tree
selected =
    One (op.Project (set 10))
    (Two (op.Join (attribute 0) Eq (attribute 2)) (One (op.SelConst (attribute 0) Ge (Int (pos 2))) (Leaf (table 0) (set 3))) (Leaf (table 1) (set 12)))

selected_schemes : schemes_in selected high 4 ≡ Ope ∷ Rnd ∷ Ope ∷ Rnd ∷ []
unfolding members
selected_schemes = refl

-- a ceiling on a lowers c as well, and no more than to the ceiling
selected_lowered : schemes_in selected (Det ∷ replicate 63 Ope) 4 ≡ Det ∷ Rnd ∷ Det ∷ Rnd ∷ []
unfolding members
selected_lowered = refl

-- SELECT T, SUM(P) FROM Hosp JOIN Ins ON S = C WHERE D = 'stroke' GROUP BY T HAVING SUM(P) > 100, where Hosp has S, B, D and T
-- (0 to 3), Ins has C and P (4 and 5)
abbrev hospital : Tree
hospital =
    One (op.SelConst (attribute 5) Gt (Int (pos 100)))
    (One (op.Group (set 8) ((attribute 5, agg.Sum) ∷ []) false)
    (Two (op.Join (attribute 0) Eq (attribute 4)) (One (op.SelConst (attribute 2) Eq (Text (codes "stroke"))) (Leaf (table 0) (set 13)))
    (Leaf (table 1) (set 48))))

hospital_clusters : clusters_in hospital 6 ≡ 0 ∷ 1 ∷ 2 ∷ 3 ∷ 0 ∷ 5 ∷ []
unfolding count_trailing_zeros
hospital_clusters = refl

-- the comparison of HAVING asks for the order of P, and nothing asks for B
hospital_schemes : schemes_in hospital high 6 ≡ Det ∷ Rnd ∷ Det ∷ Det ∷ Det ∷ Ope ∷ []
unfolding members
hospital_schemes = refl

-- SELECT a, f(b) FROM r GROUP BY a, for a function f
abbrev folded : Agg → Tree
folded f = One (op.Group (set 1) ((attribute 1, f) ∷ []) false) (Leaf (table 0) (set 3))

sum_asks_nothing : schemes_in (folded agg.Sum) high 2 ≡ Det ∷ Rnd ∷ []
unfolding members
sum_asks_nothing = refl

min_asks_order : schemes_in (folded agg.Min) high 2 ≡ Det ∷ Ope ∷ []
unfolding members
min_asks_order = refl

max_asks_order : schemes_in (folded agg.Max) high 2 ≡ Det ∷ Ope ∷ []
unfolding members
max_asks_order = refl
