-- That decoding the encoded run gives the plain meaning, and what it asks of the plan, the keys and the tables. docs/MODEL.md, "Encoded
-- run", tells it in prose.
use Rattle.std.specs.Prelude.{◌≡◌, ℕ, ◌+◌, ◌^◌, ◌≤◌, ◌<◌, true, List, length, map, Some, IfSome}
use Rattle.std.specs.List.{AllByRecursion, range_with_len}
use Rattle.extended_plan.specs.Ready.{IsReady}
use Rattle.extended_plan.specs.Setting.{Setting, op_at}
use Rattle.extended_plan.specs.Term.{Term, node_of, spell}
use Rattle.extended_plan.specs.Validity.{runnable}
use Rattle.key_clusters.specs.declared.assigned.Clusters.{Clusters}
use Rattle.key_clusters.specs.Keys.{scheme_at, key_at}
use Rattle.key_clusters.specs.Laws.{IfPair, ShareKey}
use Rattle.plan_algebra.specs.Meaning.{node_rows}
use Rattle.provider_engine.specs.Opening.{listed_key, seals_of}
use Rattle.provider_engine.specs.Run.{decoded, enc_run}
use Rattle.row_algebra.specs.Contents.{Contents, HaveForm}
use Rattle.row_algebra.specs.Values.{value_tests}
use Rattle.sealed_column.specs.Seal.{HasBytes}
use Rattle.provider_engine.specs.Typed.{AreTyped}
use Rattle.provider_engine.specs.Wide.{NoneIsWide, tree_of_node}
use Rattle.key_clusters.specs.Clusters.{cluster_in, scheme_in}
use Rattle.plan_algebra.specs.declared.plan_facts.PlanFacts.{PlanFacts}
use Rattle.mq_base.specs.declared.table.Scheme.{Scheme}

-- the texts of a content are made of bytes
abbrev pub HaveBytes : Contents → Type 0
HaveBytes contents = (t : ℕ) → AllByRecursion (λ r. (a : ℕ) → IfSome (r.cell a) HasBytes) (contents t)

-- two attributes are sealed under one scheme and one key
pub record ShareSeals (clusters : Clusters) (keys : List (List ℕ)) (a b : ℕ) : Type 0 where
  pub scheme : scheme_at clusters a ≡ scheme_at clusters b
  pub key : listed_key keys a ≡ listed_key keys b

-- the setting is a job's: its plan is typed, over at most 64 attributes; attributes that a node compares are sealed alike; and the tables
-- have their form
pub record IsRun (s : Setting) (keys : List (List ℕ)) (contents : Contents) : Type 0 where
  pub ready : IsReady s
  pub typed : AreTyped s.policy.schema s.basis.nodes
  pub few_attributes : length s.policy.schema.attrs ≤ 64
  pub keyed : (n : ℕ) → n < length s.basis.nodes → IfPair (op_at s n) (ShareSeals s.basis.clusters keys)
  pub form : HaveForm s.policy.schema contents
  pub bytes : HaveBytes contents

-- a term of which each step is runnable gives node n; its steps stand from a place on in a list, each at a place below 2^32; and no node
-- of n's tree is wide
pub record IsRunTo (s : Setting) (contents : Contents) (n start : ℕ) (y : Term) : Type 0 where
  pub gives : node_of s y ≡ Some n
  pub runs : runnable s y ≡ true
  pub few : start + length (spell y) ≤ 2 ^ 32
  pub narrow : NoneIsWide contents (tree_of_node s.basis.nodes n)

-- the table of such a term, decoded, has the rows of its node
abbrev pub RunsDecode : Type 0
RunsDecode = (s : Setting) (keys : List (List ℕ)) (contents : Contents) → IsRun s keys contents → (n start : ℕ) (y : Term)
    → IsRunTo s contents n start y
    → map (decoded (seals_of s.basis.clusters keys)) (enc_run s (seals_of s.basis.clusters keys) contents start y)
    ≡ node_rows value_tests contents s.basis.nodes n

-- the seals under the clusters of a plan and their keys are shared by the attributes that a node compares, since they have one cluster
abbrev pub SealsAreShared : Type 0
SealsAreShared = (s : Setting) → IsReady s → (facts : PlanFacts) (ceilings : List Scheme) (seed : List ℕ) (keys : List (List ℕ))
    → s.basis.clusters.cluster ≡ map (cluster_in facts) (range_with_len 0 64)
    → s.basis.clusters.scheme ≡ map (scheme_in facts ceilings) (range_with_len 0 64)
    → keys ≡ map (key_at seed s.basis.clusters) (range_with_len 0 64) → (n : ℕ) → n < length s.basis.nodes
    → IfPair (op_at s n) (ShareKey facts ceilings seed) → IfPair (op_at s n) (ShareSeals s.basis.clusters keys)
