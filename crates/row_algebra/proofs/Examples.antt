-- The rows that queries ask for, computed: one that joins, groups and keeps by HAVING, and what rows, groups and
-- functions do with what occurs more than once.
use Rattle.std.proofs.Common.{◌≡◌, ℕ, pos, true, false, List, [], ◌∷◌, map, codes, refl, Some, None, if◌then◌else◌, ◌==◌}
use Rattle.base_laws.specs.Lists.{firsts}
use Rattle.base_laws.specs.Sets.{members}
use Rattle.mq_base.specs.declared.ids.AttrId.{AttrId}
use Rattle.mq_base.specs.declared.ids.TableId.{TableId}
use Rattle.mq_base.specs.declared.query.Agg.{Agg}
use Rattle.mq_base.specs.declared.query.Agg.TheVariants as agg
use Rattle.mq_base.specs.declared.query.CmpOp.TheVariants as cmp
use Rattle.mq_base.specs.declared.query.Cond.TheVariants as cond
use Rattle.mq_base.specs.declared.query.Having.TheVariants as having
use Rattle.mq_base.specs.declared.query.Item.TheVariants as item
use Rattle.mq_base.specs.declared.query.Query.{Query}
use Rattle.mq_base.specs.declared.schema.AttrInfo.{AttrInfo}
use Rattle.mq_base.specs.declared.schema.Schema.{Schema}
use Rattle.mq_base.specs.declared.table.PlainTable.{PlainTable}
use Rattle.mq_base.specs.declared.value.ValueType.{ValueType}
use Rattle.mq_base.specs.declared.value.ValueType.TheVariants as type
use Rattle.mq_base.specs.declared.value.Value.{Value}
use Rattle.mq_base.specs.declared.value.Value.TheVariants.{Int, Text}
use Rattle.row_algebra.specs.Rows.{RowOf}
use Rattle.row_algebra.specs.Groups.{grouped}
use Rattle.row_algebra.specs.Select.{selected}
use Rattle.row_algebra.specs.Values.{value_step, value_tests, value_count}
use Rattle.row_algebra.specs.Contents.{Contents, contents_of}
use Rattle.row_algebra.specs.Meaning.{query_rows}

abbrev attribute : ℕ → AttrId
attribute a = record { 0 = a }

abbrev table : ℕ → TableId
table t = record { 0 = t }

abbrev column : List ℕ → ValueType → ℕ → AttrInfo
column name ty t = record { name = name; ty = ty; table = table t }

-- patients with their disease and treatment, and customers with their premium
abbrev schema : Schema
schema = record {
  tables = record { name = codes "Hosp"; owner = record { 0 = 0 }; attrs = record { 0 = 15 } }
      ∷ record { name = codes "Ins"; owner = record { 0 = 1 }; attrs = record { 0 = 48 } } ∷ [];
  attrs = column (codes "S") type.Int 0 ∷ column (codes "B") type.Int 0 ∷ column (codes "D") type.Text 0
      ∷ column (codes "T") type.Text 0 ∷ column (codes "C") type.Int 1 ∷ column (codes "P") type.Int 1 ∷ [];
}

abbrev int : ℕ → Value
int n = Int (pos n)

abbrev hosp : PlainTable
hosp = record {
  table = table 0;
  rows = 4;
  columns = (int 1 ∷ int 2 ∷ int 3 ∷ int 4 ∷ []) ∷ (int 1970 ∷ int 1981 ∷ int 1960 ∷ int 1955 ∷ [])
      ∷ (Text (codes "stroke") ∷ Text (codes "stroke") ∷ Text (codes "flu") ∷ Text (codes "stroke") ∷ [])
      ∷ (Text (codes "tpa") ∷ Text (codes "surgery") ∷ Text (codes "rest") ∷ Text (codes "tpa") ∷ []) ∷ [];
}

abbrev ins : PlainTable
ins = record {
  table = table 1;
  rows = 4;
  columns = (int 1 ∷ int 2 ∷ int 4 ∷ int 9 ∷ []) ∷ (int 80 ∷ int 100 ∷ int 70 ∷ int 500 ∷ []) ∷ [];
}

abbrev contents : Contents
contents = contents_of schema (hosp ∷ ins ∷ [])

-- SELECT T, SUM(P) FROM Hosp JOIN Ins ON S = C WHERE D = 'stroke' GROUP BY T HAVING SUM(P) > 100
abbrev query : Query
query = record {
  items = item.Attr (attribute 3) ∷ item.Attr (attribute 5) ∷ [];
  tables = table 0 ∷ table 1 ∷ [];
  conds = cond.Attrs (attribute 0) cmp.Eq (attribute 4) ∷ cond.Const (attribute 2) cmp.Eq (Text (codes "stroke")) ∷ [];
  grouped = true;
  group = record { 0 = 8 };
  aggs = (attribute 5, agg.Sum) ∷ [];
  count = false;
  having = having.Const (attribute 5) cmp.Gt (int 100) ∷ [];
}

pub rows_computed : query_rows contents query ≡ (Text (codes "tpa") ∷ int 150 ∷ []) ∷ []
unfolding query_rows contents_of members
rows_computed = refl

-- SELECT T FROM Hosp WHERE D = 'stroke': equal rows stay
abbrev treatments : Query
treatments = record {
  items = item.Attr (attribute 3) ∷ [];
  tables = table 0 ∷ [];
  conds = cond.Const (attribute 2) cmp.Eq (Text (codes "stroke")) ∷ [];
  grouped = false;
  group = record { 0 = 0 };
  aggs = [];
  count = false;
  having = [];
}

pub equal_rows_stay : query_rows contents treatments
    ≡ (Text (codes "tpa") ∷ []) ∷ (Text (codes "surgery") ∷ []) ∷ (Text (codes "tpa") ∷ []) ∷ []
unfolding query_rows contents_of
equal_rows_stay = refl

-- SELECT COUNT(*), T FROM Hosp GROUP BY T HAVING COUNT(*) < 2: groups in the order in which they begin
abbrev rare : Query
rare = record {
  items = item.Count ∷ item.Attr (attribute 3) ∷ [];
  tables = table 0 ∷ [];
  conds = [];
  grouped = true;
  group = record { 0 = 8 };
  aggs = [];
  count = true;
  having = having.Count cmp.Lt (pos 2) ∷ [];
}

pub counts_kept : query_rows contents rare
    ≡ (int 1 ∷ Text (codes "surgery") ∷ []) ∷ (int 1 ∷ Text (codes "rest") ∷ []) ∷ []
unfolding query_rows contents_of members
counts_kept = refl

-- SELECT P, COUNT(*) FROM Hosp, Ins WHERE D = 'gout' GROUP BY P: no rows make no group
abbrev nobody : Query
nobody = record {
  items = item.Attr (attribute 5) ∷ item.Count ∷ [];
  tables = table 0 ∷ table 1 ∷ [];
  conds = cond.Const (attribute 2) cmp.Eq (Text (codes "gout")) ∷ [];
  grouped = true;
  group = record { 0 = 32 };
  aggs = [];
  count = true;
  having = [];
}

pub no_rows_no_group : query_rows contents nobody ≡ []
unfolding query_rows contents_of members
no_rows_no_group = refl

-- rows with a key and a value
abbrev keyed : ℕ → Value → RowOf Value
keyed key x = record { cell = λ a. if a == 0 then Some (int key) else (if a == 1 then Some x else None); count = None }

-- keys 1, 2, 1 give groups 1, 2, each with its sum and number
pub groups_by_first : map (selected value_count (item.Attr (attribute 0) ∷ item.Attr (attribute 1) ∷ item.Count ∷ []))
    (grouped value_tests 1 ((attribute 1, agg.Sum) ∷ []) true (keyed 1 (int 5) ∷ keyed 2 (int 6) ∷ keyed 1 (int 7) ∷ []))
    ≡ (int 1 ∷ int 12 ∷ int 2 ∷ []) ∷ (int 2 ∷ int 6 ∷ int 1 ∷ []) ∷ []
unfolding members
groups_by_first = refl

-- MIN and MAX of values of which two tie
abbrev made : Agg → List (List Value)
made func = map (selected value_count (item.Attr (attribute 1) ∷ []))
    (grouped value_tests 1 ((attribute 1, func) ∷ []) false
    (keyed 1 (int 7) ∷ keyed 1 (int 5) ∷ keyed 1 (int 5) ∷ keyed 1 (int 7) ∷ []))

pub least_of_ties : made agg.Min ≡ (int 5 ∷ []) ∷ []
unfolding members
least_of_ties = refl

pub greatest_of_ties : made agg.Max ≡ (int 7 ∷ []) ∷ []
unfolding members
greatest_of_ties = refl

-- the first of each kind, in the order in which they first occur
pub firsts_computed : firsts (λ x y. x == y) (1 ∷ 2 ∷ 1 ∷ 3 ∷ 2 ∷ []) ≡ 1 ∷ 2 ∷ 3 ∷ []
firsts_computed = refl

-- the step of each function, of two INT
pub sum_computed : value_step agg.Sum (int 7) (int 5) ≡ int 12
sum_computed = refl

pub least_computed : value_step agg.Min (int 7) (int 5) ≡ int 5
least_computed = refl

pub greatest_computed : value_step agg.Max (int 7) (int 5) ≡ int 7
greatest_computed = refl
