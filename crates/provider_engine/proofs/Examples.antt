-- The encoded run of a worked plan, computed with small seals that can be read: "join on deterministic cells". SELECT b, d FROM r, s WHERE
-- a = c, where r has a and b (0 and 1), s has c and d (2 and 3); the subjects are A, B, X and U. The values are worked out by hand.
use Rattle.std.proofs.Common.{◌≡◌, ℕ, pos, List, [], ◌∷◌, map, replicate, Option, Some, None, if◌then◌else◌, refl}
use Rattle.base_laws.specs.Sets.{has}
use Rattle.extended_plan.specs.Setting.{Setting}
use Rattle.extended_plan.specs.Term.{Term, Leaf, Enc, Dec, Send, Un, Bin}
use Rattle.mq_base.specs.declared.attr_set.AttrSet.{AttrSet}
use Rattle.mq_base.specs.declared.ids.AttrId.{AttrId}
use Rattle.mq_base.specs.declared.ids.NodeId.{NodeId}
use Rattle.mq_base.specs.declared.ids.SubjectId.{SubjectId}
use Rattle.mq_base.specs.declared.ids.TableId.{TableId}
use Rattle.mq_base.specs.declared.plan.PlanNode.{PlanNode}
use Rattle.mq_base.specs.declared.plan.PlanOp.TheVariants as op
use Rattle.mq_base.specs.declared.query.CmpOp.TheVariants.{Eq}
use Rattle.mq_base.specs.declared.schema.AttrInfo.{AttrInfo}
use Rattle.mq_base.specs.declared.schema.Schema.{Schema}
use Rattle.mq_base.specs.declared.table.PlainTable.{PlainTable}
use Rattle.mq_base.specs.declared.table.Scheme.TheVariants.{Det, Ope, Rnd}
use Rattle.mq_base.specs.declared.value.Value.{Value}
use Rattle.mq_base.specs.declared.value.Value.TheVariants.{Int}
use Rattle.mq_base.specs.declared.value.ValueType.TheVariants as type
use Rattle.plan_algebra.specs.Facts.{facts_of}
use Rattle.plan_algebra.specs.Meaning.{node_rows}
use Rattle.plan_algebra.specs.Nodes.{nodes_of, subtrees}
use Rattle.plan_algebra.specs.Tree as tree
use Rattle.column_table.specs.Cells.{Cell, Plain, Sealed, Seals}
use Rattle.provider_engine.specs.Run.{decoded, enc_run}
use Rattle.row_algebra.specs.Contents.{Contents, contents_of}
use Rattle.row_algebra.specs.Rows.{RowOf}
use Rattle.row_algebra.specs.Values.{value_tests}

abbrev attribute : ℕ → AttrId
attribute a = record { 0 = a }

abbrev table : ℕ → TableId
table t = record { 0 = t }

abbrev node : ℕ → NodeId
node n = record { 0 = n }

abbrev subject : ℕ → SubjectId
subject s = record { 0 = s }

abbrev set : ℕ → AttrSet
set s = record { 0 = s }

abbrev int : ℕ → Value
int n = Int (pos n)

abbrev column : ℕ → AttrInfo
column t = record { name = []; ty = type.Int; table = table t }

abbrev schema : Schema
schema = record { tables = []; attrs = column 0 ∷ column 0 ∷ column 1 ∷ column 1 ∷ [] }

abbrev joined : tree.Tree
joined =
    tree.One (op.Project (set 10))
    (tree.Two (op.Join (attribute 0) Eq (attribute 2)) (tree.Leaf (table 0) (set 3)) (tree.Leaf (table 1) (set 12)))

abbrev plan : List PlanNode
plan = nodes_of 0 joined

-- r is stored by A and s by B; b is sealed at rest where that is asked for
abbrev setting : ℕ → Setting
setting rest = record {
  policy = record {
    schema = schema;
    subjects = replicate 4 [];
    user = subject 3;
    plain = replicate 16 (set 0);
    sealed = replicate 16 (set 0);
    store = subject 0 ∷ subject 1 ∷ [];
    rest = set rest;
    ceiling = replicate 64 Ope;
  };
  basis = record {
    nodes = plan;
    facts = map facts_of (subtrees joined);
    rows = [];
    clusters = record { cluster = []; scheme = Det ∷ Rnd ∷ Det ∷ Rnd ∷ [] };
    prices = record { cpu = []; net = []; rows = []; distinct = [] };
    schema = schema;
  };
}

abbrev r : PlainTable
r = record { table = table 0; rows = 3; columns = (int 1 ∷ int 2 ∷ int 2 ∷ []) ∷ (int 10 ∷ int 20 ∷ int 21 ∷ []) ∷ [] }

abbrev s : PlainTable
s = record { table = table 1; rows = 3; columns = (int 2 ∷ int 3 ∷ int 2 ∷ []) ∷ (int 7 ∷ int 8 ∷ int 9 ∷ []) ∷ [] }

abbrev contents : Contents
contents = contents_of schema (r ∷ s ∷ [])

-- ---- seals to read: of a and c the number alone, of b and d the place, the row and the number

abbrev number : Value → ℕ
number (Int (pos n)) = n
number _ = 0

abbrev read : List ℕ → Option Value
read (n ∷ []) = Some (int n)
read (place ∷ row ∷ n ∷ []) = Some (int n)
read _ = None

abbrev seals : Seals
seals = record {
  seal = λ a place row v. if has 5 a then number v ∷ [] else place ∷ row ∷ number v ∷ [];
  opened = λ a bytes. read bytes;
}

-- ---- the plan: A and B seal and send, X joins and projects, U opens

abbrev at_a : Term
at_a = Enc (attribute 1) (Enc (attribute 0) (Leaf (table 0)))

abbrev at_b : Term
at_b = Enc (attribute 3) (Enc (attribute 2) (Leaf (table 1)))

abbrev at_x : Term
at_x = Bin (node 2) (Send (subject 2) at_a) (Send (subject 2) at_b)

abbrev at_u : Term
at_u = Dec (attribute 3) (Dec (attribute 1) (Send (subject 3) (Un (node 3) at_x)))

-- the cells of rows at the four attributes
abbrev shown : {C : Type 0} → List (RowOf C) → List (List (Option C))
shown rows = map (λ row. map row.cell (0 ∷ 1 ∷ 2 ∷ 3 ∷ [])) rows

abbrev bytes : List ℕ → Option Cell
bytes cell = Some (Sealed cell)

-- a was sealed by step 1 and b by step 2
sealed_at_a : shown (enc_run (setting 0) seals contents 0 at_a)
    ≡ (bytes (1 ∷ []) ∷ bytes (2 ∷ 0 ∷ 10 ∷ []) ∷ None ∷ None ∷ [])
    ∷ (bytes (2 ∷ []) ∷ bytes (2 ∷ 1 ∷ 20 ∷ []) ∷ None ∷ None ∷ [])
    ∷ (bytes (2 ∷ []) ∷ bytes (2 ∷ 2 ∷ 21 ∷ []) ∷ None ∷ None ∷ []) ∷ []
unfolding contents_of
sealed_at_a = refl

-- d was sealed by step 6, and each joined pair keeps the cells as they were sealed
joined_at_x : shown (enc_run (setting 0) seals contents 0 at_x)
    ≡ (bytes (2 ∷ []) ∷ bytes (2 ∷ 1 ∷ 20 ∷ []) ∷ bytes (2 ∷ []) ∷ bytes (6 ∷ 0 ∷ 7 ∷ []) ∷ [])
    ∷ (bytes (2 ∷ []) ∷ bytes (2 ∷ 1 ∷ 20 ∷ []) ∷ bytes (2 ∷ []) ∷ bytes (6 ∷ 2 ∷ 9 ∷ []) ∷ [])
    ∷ (bytes (2 ∷ []) ∷ bytes (2 ∷ 2 ∷ 21 ∷ []) ∷ bytes (2 ∷ []) ∷ bytes (6 ∷ 0 ∷ 7 ∷ []) ∷ [])
    ∷ (bytes (2 ∷ []) ∷ bytes (2 ∷ 2 ∷ 21 ∷ []) ∷ bytes (2 ∷ []) ∷ bytes (6 ∷ 2 ∷ 9 ∷ []) ∷ []) ∷ []
unfolding contents_of
joined_at_x = refl

abbrev plain : ℕ → Option Cell
plain n = Some (Plain (int n))

-- the user has the answer in plain
opened_at_u : shown (enc_run (setting 0) seals contents 0 at_u)
    ≡ (None ∷ plain 20 ∷ None ∷ plain 7 ∷ []) ∷ (None ∷ plain 20 ∷ None ∷ plain 9 ∷ [])
    ∷ (None ∷ plain 21 ∷ None ∷ plain 7 ∷ []) ∷ (None ∷ plain 21 ∷ None ∷ plain 9 ∷ []) ∷ []
unfolding contents_of
opened_at_u = refl

-- decoded, the join at X is the plain meaning of its node
decoded_at_x : shown (map (decoded seals) (enc_run (setting 0) seals contents 0 at_x)) ≡ shown (node_rows value_tests contents plan 2)
unfolding contents_of
decoded_at_x = refl

-- where b is sealed at rest, it is so by the step of the leaf, here the fifth of a list
rest_at_a : shown (enc_run (setting 2) seals contents 4 (Leaf (table 0)))
    ≡ (plain 1 ∷ bytes (4 ∷ 0 ∷ 10 ∷ []) ∷ None ∷ None ∷ []) ∷ (plain 2 ∷ bytes (4 ∷ 1 ∷ 20 ∷ []) ∷ None ∷ None ∷ [])
    ∷ (plain 2 ∷ bytes (4 ∷ 2 ∷ 21 ∷ []) ∷ None ∷ None ∷ []) ∷ []
unfolding contents_of
rest_at_a = refl
