-- The rows that plans of small queries give, read through the select list, computed; the values are worked out by hand from
-- the tables.
use Rattle.std.proofs.Common.{◌≡◌, ℕ, ◌-◌, pos, List, [], ◌∷◌, codes, length, map, refl}
use Rattle.base_laws.specs.Sets.{members}
use Rattle.mq_base.specs.declared.plan.PlanNode.{PlanNode}
use Rattle.mq_base.specs.declared.query.Query.{Query}
use Rattle.mq_base.specs.declared.schema.Schema.{Schema}
use Rattle.mq_base.specs.declared.table.PlainTable.{PlainTable}
use Rattle.mq_base.specs.declared.value.Value.{Value}
use Rattle.mq_base.specs.declared.value.Value.TheVariants.{Int, Text}
use Rattle.row_algebra.specs.Contents.{contents_of}
use Rattle.row_algebra.specs.Select.{selected}
use Rattle.row_algebra.specs.Values.{value_count, value_tests}
use Rattle.plan_algebra.specs.Meaning.{node_rows}
use Rattle.plan_algebra.specs.Nodes.{nodes_of}
use Rattle.plan_algebra.specs.Plan.{plan_tree}
use Rattle.plan_algebra.proofs.Examples.{apart, counted, hospital, linked, premiums, three}

abbrev int : ℕ → Value
int n = Int (pos n)

abbrev text : List ℕ → Value
text bytes = Text bytes

abbrev content : ℕ → ℕ → List (List Value) → PlainTable
content t rows columns = record { table = record { 0 = t }; rows = rows; columns = columns }

-- the values of the select list in the rows of the plan's root
abbrev answer : Schema → List PlainTable → Query → List (List Value)
answer schema tables q =
    let nodes : List PlanNode = nodes_of 0 (plan_tree schema q) in
    map (selected value_count q.items) (node_rows value_tests (contents_of schema tables) nodes (length nodes - 1))

abbrev patients : PlainTable
patients = content 0 4
    ((int 1 ∷ int 2 ∷ int 3 ∷ int 4 ∷ []) ∷ (int 1970 ∷ int 1981 ∷ int 1960 ∷ int 1955 ∷ [])
    ∷ (text (codes "stroke") ∷ text (codes "stroke") ∷ text (codes "flu") ∷ text (codes "stroke") ∷ [])
    ∷ (text (codes "tpa") ∷ text (codes "surgery") ∷ text (codes "rest") ∷ text (codes "tpa") ∷ []) ∷ [])

abbrev customers : PlainTable
customers = content 1 4 ((int 1 ∷ int 2 ∷ int 4 ∷ int 9 ∷ []) ∷ (int 80 ∷ int 100 ∷ int 70 ∷ int 500 ∷ []) ∷ [])

-- 80 and 70 are paid by patients with tpa, and 100 alone is not more than 100
premiums_answer : answer hospital (patients ∷ customers ∷ []) premiums ≡ (text (codes "tpa") ∷ int 150 ∷ []) ∷ []
unfolding contents_of members
premiums_answer = refl

-- a, b of r, then c, d of s, then e, f of t
abbrev small : List PlainTable
small = content 0 3 ((int 1 ∷ int 1 ∷ int 3 ∷ []) ∷ (int 2 ∷ int 5 ∷ int 2 ∷ []) ∷ [])
    ∷ content 1 3 ((int 0 ∷ int 0 ∷ int 1 ∷ []) ∷ (int 4 ∷ int 5 ∷ int 9 ∷ []) ∷ [])
    ∷ content 2 3 ((int 2 ∷ int 5 ∷ int 2 ∷ []) ∷ (int 7 ∷ int 4 ∷ int 4 ∷ []) ∷ []) ∷ []

linked_answer : answer three small linked
    ≡ (int 1 ∷ int 7 ∷ []) ∷ (int 1 ∷ int 7 ∷ []) ∷ (int 1 ∷ int 4 ∷ []) ∷ (int 1 ∷ int 4 ∷ []) ∷ []
unfolding contents_of members
linked_answer = refl

apart_answer : answer three small apart
    ≡ (int 2 ∷ int 7 ∷ int 1 ∷ int 2 ∷ []) ∷ (int 2 ∷ int 7 ∷ int 1 ∷ int 5 ∷ []) ∷ (int 2 ∷ int 4 ∷ int 1 ∷ int 2 ∷ [])
    ∷ (int 2 ∷ int 4 ∷ int 1 ∷ int 5 ∷ []) ∷ []
unfolding contents_of members
apart_answer = refl

-- 1 and 2 stand together twice
counted_answer : answer three (content 0 3 ((int 1 ∷ int 1 ∷ int 1 ∷ []) ∷ (int 2 ∷ int 5 ∷ int 2 ∷ []) ∷ []) ∷ []) counted
    ≡ (int 1 ∷ int 2 ∷ []) ∷ []
unfolding contents_of members
counted_answer = refl
