-- Node, profile, state and cost of each term of three worked plans, computed; the values are worked out by hand from the tables of
-- docs/MODEL.md.
use Rattle.std.proofs.Common.{◌≡◌, ℕ, pos, false, Some, Option, List, [], ◌∷◌, codes, map, replicate, refl}
use Rattle.base_laws.specs.Sets.{members}
use Rattle.mq_base.specs.declared.attr_set.AttrSet.{AttrSet}
use Rattle.mq_base.specs.declared.ids.AttrId.{AttrId}
use Rattle.mq_base.specs.declared.ids.NodeId.{NodeId}
use Rattle.mq_base.specs.declared.ids.SubjectId.{SubjectId}
use Rattle.mq_base.specs.declared.ids.TableId.{TableId}
use Rattle.mq_base.specs.declared.plan.PlanOp.TheVariants as op
use Rattle.mq_base.specs.declared.plan.Step.TheVariants as step
use Rattle.mq_base.specs.declared.query.Agg.TheVariants as agg
use Rattle.mq_base.specs.declared.query.CmpOp.TheVariants.{Eq, Gt, Ge}
use Rattle.mq_base.specs.declared.schema.AttrInfo.{AttrInfo}
use Rattle.mq_base.specs.declared.table.Scheme.{Scheme}
use Rattle.mq_base.specs.declared.table.Scheme.TheVariants.{Rnd, Det, Ope}
use Rattle.mq_base.specs.declared.value.Value.TheVariants.{Int, Text}
use Rattle.mq_base.specs.declared.value.ValueType.{ValueType}
use Rattle.mq_base.specs.declared.value.ValueType.TheVariants as type
use Rattle.plan_algebra.specs.Facts.{facts_of}
use Rattle.plan_algebra.specs.Nodes.{nodes_of, subtrees}
use Rattle.plan_algebra.specs.Tree.{Tree, One, Two}
use Rattle.plan_algebra.specs.Tree as tree
use Rattle.relation_profile.specs.Profile.{Profile}
use Rattle.extended_plan.specs.declared.state.State.{State}
use Rattle.extended_plan.specs.Setting.{Setting}
use Rattle.extended_plan.specs.States.{cost, state}
use Rattle.extended_plan.specs.Term.{Term, Leaf, Enc, Dec, Send, Un, Bin, node_of, spell}
use Rattle.extended_plan.specs.Validity.{IsValid, profile}

abbrev attribute : ℕ → AttrId
attribute a = record { 0 = a }

abbrev set : ℕ → AttrSet
set s = record { 0 = s }

abbrev table : ℕ → TableId
table t = record { 0 = t }

abbrev node : ℕ → NodeId
node n = record { 0 = n }

abbrev subject : ℕ → SubjectId
subject s = record { 0 = s }

abbrev column : ValueType → AttrInfo
column ty = record { name = []; ty = ty; table = table 0 }

-- the setting of a tree with the rows of its nodes: schemes and types of the attributes, prices of computing, and of each subject
-- what it sees plain and what it sees sealed. The user has this number, and the first two subjects each store a table.
abbrev setting : Tree → List ℕ → List Scheme → List ValueType → List ℕ → List ℕ → List ℕ → ℕ → Setting
setting x rows schemes types cpu plain sealed user = record {
  policy = record {
    schema = record { tables = []; attrs = map column types };
    subjects = map (λ price. []) cpu;
    user = subject user;
    plain = map set plain;
    sealed = map set sealed;
    store = subject 0 ∷ subject 1 ∷ [];
    rest = set 0;
    ceiling = [];
  };
  basis = record {
    nodes = nodes_of 0 x;
    facts = map facts_of (subtrees x);
    rows = rows;
    clusters = record { cluster = []; scheme = schemes };
    prices = record { cpu = cpu; net = replicate 16 (replicate 16 1); rows = []; distinct = [] };
    schema = record { tables = []; attrs = map column types };
  };
}

-- what is told of a term
record Told : Type 0 where
  place : Option ℕ
  profile : Profile
  state : State
  cost : ℕ

abbrev told : Setting → Term → Told
told s x = record { place = node_of s x; profile = profile s x; state = state s x; cost = cost s x }

-- the node, the holder, what is visible plain and encrypted, what is implicit plain and encrypted, what is equivalent, and the cost
abbrev tells : ℕ → ℕ → ℕ → ℕ → ℕ → ℕ → List ℕ → ℕ → Told
tells n holder plain enc ip ie equivalent cost = record {
  place = Some n;
  profile = record {
    visible_plain = plain;
    visible_encrypted = enc;
    implicit_plain = ip;
    implicit_encrypted = ie;
    equivalent = map set equivalent;
  };
  state = record { holder = subject holder; view = record { enc = set enc; ip = set ip; ie = set ie } };
  cost = cost;
}

-- SELECT b, d FROM r, s WHERE a = c, where r has a and b (0 and 1), s has c and d (2 and 3), and the subjects are A, B, X and U.
-- X sees all of both tables sealed, U all of them plain, and computing at U is dear.
abbrev joined : Setting
joined =
    setting
    (One (op.Project (set 10)) (Two (op.Join (attribute 0) Eq (attribute 2)) (tree.Leaf (table 0) (set 3)) (tree.Leaf (table 1) (set 12))))
    (10 ∷ 20 ∷ 10 ∷ 10 ∷ []) (Det ∷ Rnd ∷ Det ∷ Rnd ∷ []) (type.Int ∷ type.Int ∷ type.Int ∷ type.Int ∷ []) (1 ∷ 1 ∷ 1 ∷ 200 ∷ [])
    (3 ∷ 12 ∷ 0 ∷ 15 ∷ []) (0 ∷ 0 ∷ 15 ∷ 0 ∷ []) 3

-- join on deterministic cells: all is sealed and sent to X, which joins and projects; U opens d and b
abbrev r_sealed : Term
r_sealed = Enc (attribute 0) (Enc (attribute 1) (Leaf (table 0)))

abbrev s_sealed : Term
s_sealed = Enc (attribute 2) (Enc (attribute 3) (Leaf (table 1)))

abbrev joined_at_X : Term
joined_at_X = Bin (node 2) (Send (subject 2) r_sealed) (Send (subject 2) s_sealed)

abbrev sent_to_U : Term
sent_to_U = Send (subject 3) (Un (node 3) joined_at_X)

abbrev joined_plan : Term
joined_plan = Dec (attribute 1) (Dec (attribute 3) sent_to_U)

joined_told :
    told joined (Leaf (table 0))
    ∷ told joined (Enc (attribute 1) (Leaf (table 0)))
    ∷ told joined r_sealed
    ∷ told joined (Send (subject 2) r_sealed)
    ∷ told joined (Leaf (table 1))
    ∷ told joined (Enc (attribute 3) (Leaf (table 1)))
    ∷ told joined s_sealed
    ∷ told joined (Send (subject 2) s_sealed)
    ∷ told joined joined_at_X
    ∷ told joined (Un (node 3) joined_at_X)
    ∷ told joined sent_to_U
    ∷ told joined (Dec (attribute 3) sent_to_U)
    ∷ told joined joined_plan
    ∷ []
    ≡ tells 0 0 3 0 0 0 [] 0
    ∷ tells 0 0 1 2 0 0 [] 10
    ∷ tells 0 0 0 3 0 0 [] 50
    ∷ tells 0 2 0 3 0 0 [] 490
    ∷ tells 1 1 12 0 0 0 [] 0
    ∷ tells 1 1 4 8 0 0 [] 20
    ∷ tells 1 1 0 12 0 0 [] 100
    ∷ tells 1 2 0 12 0 0 [] 980
    ∷ tells 2 2 0 15 0 0 (5 ∷ []) 1510
    ∷ tells 3 2 0 10 0 0 (5 ∷ []) 1520
    ∷ tells 3 3 0 10 0 0 (5 ∷ []) 2080
    ∷ tells 3 3 8 2 0 0 (5 ∷ []) 4080
    ∷ tells 3 3 10 0 0 0 (5 ∷ []) 6080
    ∷ []
unfolding members
joined_told = refl

joined_valid : IsValid joined joined_plan
unfolding members
joined_valid = record { stands = record { gives = refl; runs = refl; held = refl }; by_user = refl; opened = refl }

joined_steps : spell joined_plan
    ≡ step.Base (table 0)
    ∷ step.Enc (attribute 1)
    ∷ step.Enc (attribute 0)
    ∷ step.Send (subject 2)
    ∷ step.Base (table 1)
    ∷ step.Enc (attribute 3)
    ∷ step.Enc (attribute 2)
    ∷ step.Send (subject 2)
    ∷ step.Bin (node 2)
    ∷ step.Un (node 3)
    ∷ step.Send (subject 3)
    ∷ step.Dec (attribute 3)
    ∷ step.Dec (attribute 1)
    ∷ []
joined_steps = refl

-- SELECT b, d FROM r, s WHERE a = c AND a >= 2, of the same tables and subjects
abbrev selected : Setting
selected =
    setting
    (One (op.Project (set 10))
    (Two (op.Join (attribute 0) Eq (attribute 2)) (One (op.SelConst (attribute 0) Ge (Int (pos 2))) (tree.Leaf (table 0) (set 3))) (tree.Leaf (table 1) (set 12))))
    (10 ∷ 4 ∷ 20 ∷ 4 ∷ 4 ∷ []) (Ope ∷ Rnd ∷ Ope ∷ Rnd ∷ []) (type.Int ∷ type.Int ∷ type.Int ∷ type.Int ∷ []) (1 ∷ 1 ∷ 1 ∷ 200 ∷ [])
    (3 ∷ 12 ∷ 0 ∷ 15 ∷ []) (0 ∷ 0 ∷ 15 ∷ 0 ∷ []) 3

-- join on order-preserving cells: A selects on sealed a, since a selection in plaintext would leave it implicit in plaintext, and X
-- does not see it so
abbrev r_selected : Term
r_selected = Un (node 1) (Enc (attribute 0) (Leaf (table 0)))

abbrev selected_at_X : Term
selected_at_X = Bin (node 3) (Send (subject 2) (Enc (attribute 1) r_selected)) (Send (subject 2) s_sealed)

abbrev selected_at_U : Term
selected_at_U = Send (subject 3) (Un (node 4) selected_at_X)

abbrev selected_plan : Term
selected_plan = Dec (attribute 1) (Dec (attribute 3) selected_at_U)

selected_told :
    told selected (Leaf (table 0))
    ∷ told selected (Enc (attribute 0) (Leaf (table 0)))
    ∷ told selected r_selected
    ∷ told selected (Enc (attribute 1) r_selected)
    ∷ told selected (Send (subject 2) (Enc (attribute 1) r_selected))
    ∷ told selected (Leaf (table 1))
    ∷ told selected (Enc (attribute 3) (Leaf (table 1)))
    ∷ told selected s_sealed
    ∷ told selected (Send (subject 2) s_sealed)
    ∷ told selected selected_at_X
    ∷ told selected (Un (node 4) selected_at_X)
    ∷ told selected selected_at_U
    ∷ told selected (Dec (attribute 3) selected_at_U)
    ∷ told selected selected_plan
    ∷ []
    ≡ tells 0 0 3 0 0 0 [] 0
    ∷ tells 0 0 2 1 0 0 [] 640
    ∷ tells 1 0 2 1 0 1 [] 650
    ∷ tells 1 0 0 3 0 1 [] 654
    ∷ tells 1 2 0 3 0 1 [] 894
    ∷ tells 2 1 12 0 0 0 [] 0
    ∷ tells 2 1 4 8 0 0 [] 20
    ∷ tells 2 1 0 12 0 0 [] 1300
    ∷ tells 2 2 0 12 0 0 [] 2500
    ∷ tells 3 2 0 15 0 1 (5 ∷ []) 3422
    ∷ tells 4 2 0 10 0 1 (5 ∷ []) 3426
    ∷ tells 4 3 0 10 0 1 (5 ∷ []) 3650
    ∷ tells 4 3 8 2 0 1 (5 ∷ []) 4450
    ∷ tells 4 3 10 0 0 1 (5 ∷ []) 5250
    ∷ []
unfolding members
selected_told = refl

selected_valid : IsValid selected selected_plan
unfolding members
selected_valid = record { stands = record { gives = refl; runs = refl; held = refl }; by_user = refl; opened = refl }

-- SELECT T, SUM(P) FROM Hosp JOIN Ins ON S = C WHERE D = 'stroke' GROUP BY T HAVING SUM(P) > 100, where Hosp has S, B, D and T
-- (0 to 3), Ins has C and P (4 and 5), and the subjects are H, I, U, X, Y and Z
abbrev hospital : Setting
hospital =
    setting
    (One (op.SelConst (attribute 5) Gt (Int (pos 100)))
    (One (op.Group (set 8) ((attribute 5, agg.Sum) ∷ []) false)
    (Two (op.Join (attribute 0) Eq (attribute 4)) (One (op.SelConst (attribute 2) Eq (Text (codes "stroke"))) (tree.Leaf (table 0) (set 13)))
    (tree.Leaf (table 1) (set 48)))))
    (1000 ∷ 20 ∷ 5000 ∷ 20 ∷ 20 ∷ 7 ∷ []) (Det ∷ Rnd ∷ Det ∷ Det ∷ Det ∷ Ope ∷ [])
    (type.Int ∷ type.Int ∷ type.Text ∷ type.Text ∷ type.Int ∷ type.Int ∷ []) (10 ∷ 10 ∷ 100 ∷ 1 ∷ 2 ∷ 1 ∷ [])
    (31 ∷ 50 ∷ 61 ∷ 12 ∷ 46 ∷ 25 ∷ []) (32 ∷ 13 ∷ 0 ∷ 49 ∷ 17 ∷ 36 ∷ []) 2

-- H selects, seals S and sends; I seals C and sends; Y joins on sealed cells, groups, selects and sends
abbrev patients : Term
patients = Un (node 1) (Leaf (table 0))

abbrev patients_sealed : Term
patients_sealed = Enc (attribute 0) patients

abbrev premiums_sealed : Term
premiums_sealed = Enc (attribute 4) (Leaf (table 1))

abbrev joined_at_Y : Term
joined_at_Y = Bin (node 3) (Send (subject 4) patients_sealed) (Send (subject 4) premiums_sealed)

abbrev grouped_at_Y : Term
grouped_at_Y = Un (node 4) joined_at_Y

abbrev hospital_plan : Term
hospital_plan = Send (subject 2) (Un (node 5) grouped_at_Y)

hospital_told :
    told hospital (Leaf (table 0))
    ∷ told hospital patients
    ∷ told hospital patients_sealed
    ∷ told hospital (Send (subject 4) patients_sealed)
    ∷ told hospital (Leaf (table 1))
    ∷ told hospital premiums_sealed
    ∷ told hospital (Send (subject 4) premiums_sealed)
    ∷ told hospital joined_at_Y
    ∷ told hospital grouped_at_Y
    ∷ told hospital (Un (node 5) grouped_at_Y)
    ∷ told hospital hospital_plan
    ∷ []
    ≡ tells 0 0 13 0 0 0 [] 0
    ∷ tells 1 0 13 0 4 0 [] 10000
    ∷ tells 1 0 12 1 4 0 [] 10800
    ∷ tells 1 4 12 1 4 0 [] 16000
    ∷ tells 2 1 48 0 0 0 [] 0
    ∷ tells 2 1 32 16 0 0 [] 200000
    ∷ tells 2 4 32 16 0 0 [] 360000
    ∷ tells 3 4 44 17 4 0 (17 ∷ []) 386080
    ∷ tells 4 4 40 0 12 0 (17 ∷ []) 386120
    ∷ tells 5 4 40 0 44 0 (17 ∷ []) 386160
    ∷ tells 5 2 40 0 44 0 (17 ∷ []) 387126
    ∷ []
unfolding members
hospital_told = refl

hospital_valid : IsValid hospital hospital_plan
unfolding members
hospital_valid = record { stands = record { gives = refl; runs = refl; held = refl }; by_user = refl; opened = refl }
