-- Laws of a plan's list as it grows: it never gets shorter, and what is left of a list of conditions decides what it becomes.
use Rattle.std.proofs.Common.{◌≡◌, ℕ, ◌+◌, ◌-◌, ◌<◌, ◌≤◌, Bool, true, false, List, [], ◌∷◌, ◌++◌, map, length, get_or, take, drop, Some, None, refl, sym, ap, ◌∙◌, add-one, arith}
use Rattle.std.specs.Prelude.{filter, position}
use Rattle.std.specs.List.{position_or_len}
use Rattle.std.proofs.lemmas.List.{drop_more, drop_all, take_more, take_rest, length-append, length-map, length_push}
use Rattle.std.proofs.lemmas.List.Quantifiers.{position-Some}
use Rattle.std.proofs.lemmas.List.Sums.{fails_before_first}
use Rattle.base_laws.proofs.ListLaws.{position-below}
use Rattle.base_laws.proofs.PlaceLaws.{none_pass, one_passes, past_end}
use Rattle.mq_base.specs.declared.ids.TableId.{TableId}
use Rattle.mq_base.specs.declared.plan.PlanNode.{PlanNode}
use Rattle.mq_base.specs.declared.plan.PlanOp.{PlanOp}
use Rattle.mq_base.specs.declared.plan.PlanOp.TheVariants as op
use Rattle.mq_base.specs.declared.query.Cond.{Cond}
use Rattle.mq_base.specs.declared.query.Having.{Having}
use Rattle.mq_base.specs.declared.query.Query.{Query}
use Rattle.mq_base.specs.declared.schema.Schema.{Schema}
use Rattle.mq_base.specs.Nodes.{joins}
use Rattle.plan_algebra.specs.inside.Building.{attached_on, beside_last, branch_on, over_all, over_if, over_kept, over_last, table_on, tables_after, tables_on}
use Rattle.plan_algebra.specs.Nodes.{leaf_node}
use Rattle.plan_algebra.specs.Plan.{is_about, join_by, kept_by, selection, used_of}

-- each operation puts one node
pub over_all-length : (ops : List PlanOp) (nodes : List PlanNode) → length (over_all ops nodes) ≡ length nodes + length ops
over_all-length [] nodes = omega arith
over_all-length (first ∷ rest) nodes =
    let more = over_all-length rest (over_last first nodes) in
    omega (arith, more, length-append {A = PlanNode})

pub over_all-grows : (ops : List PlanOp) (nodes : List PlanNode) → length nodes ≤ length (over_all ops nodes)
over_all-grows ops nodes = omega (arith, over_all-length ops nodes)

pub over_all-append : (ops more : List PlanOp) (nodes : List PlanNode) → over_all (ops ++ more) nodes ≡ over_all more (over_all ops nodes)
over_all-append [] more nodes = refl
over_all-append (first ∷ rest) more nodes = over_all-append rest more (over_last first nodes)

pub kept-grows : (test : Cond → Bool) (conds : List Cond) (nodes : List PlanNode) → length nodes ≤ length (over_kept test conds nodes)
kept-grows test conds nodes = over_all-grows (map selection (filter test conds)) nodes

pub branch-grows : (schema : Schema) (q : Query) (t : TableId) (nodes : List PlanNode) → length nodes ≤ length (branch_on schema q t nodes)
branch-grows schema q t nodes =
    let more = kept-grows (is_about schema t) q.conds (nodes ++ leaf_node t (used_of schema q t) ∷ []) in
    omega (arith, more, length-append {A = PlanNode})

-- past a condition, where its selection is put if the test wants it
kept_head : (test : Cond → Bool) (c : Cond) (rest : List Cond) (nodes : List PlanNode) (b : Bool) → test c ≡ b
    → over_kept test (c ∷ rest) nodes ≡ over_kept test rest (over_if b (selection c) nodes)
kept_head test c rest nodes true passes = rw passes refl
kept_head test c rest nodes false fails = rw fails refl

pub kept-more : (test : Cond → Bool) (conds : List Cond) (i : ℕ) (d : Cond) (nodes : List PlanNode) → i < length conds
    → over_kept test (drop i conds) nodes
    ≡ over_kept test (drop (i + 1) conds) (over_if (test (get_or conds i d)) (selection (get_or conds i d)) nodes)
kept-more test conds i d nodes below =
    rw (drop_more conds i d below) (kept_head test (get_or conds i d) (drop (i + 1) conds) nodes (test (get_or conds i d)) refl)

pub kept-step : (test : Cond → Bool) (whole nodes made : List PlanNode) (conds : List Cond) (i : ℕ) (c : Cond) (b : Bool) → i < length conds
    → c ≡ get_or conds i c → b ≡ test c → made ≡ over_if b (selection c) nodes
    → whole ≡ over_kept test (drop i conds) nodes → whole ≡ over_kept test (drop (i + 1) conds) made
kept-step test whole nodes made conds i c b below read tested is before =
    before ∙ kept-more test conds i c nodes below
    ∙ ap (over_kept test (drop (i + 1) conds))
    (sym (is ∙ ap (λ (t : Bool). over_if t (selection c) nodes) tested ∙ ap (λ (x : Cond). over_if (test x) (selection x) nodes) read))

pub kept-end : (test : Cond → Bool) (conds : List Cond) (i : ℕ) (nodes : List PlanNode) → length conds ≤ i
    → over_kept test (drop i conds) nodes ≡ nodes
kept-end test conds i nodes past = rw (drop_all i conds past) refl

-- past a condition of HAVING
pub having-more : (conds : List Having) (i : ℕ) (d : Having) (nodes : List PlanNode) → i < length conds
    → over_all (map kept_by (drop i conds)) nodes ≡ over_all (map kept_by (drop (i + 1) conds)) (over_last (kept_by (get_or conds i d)) nodes)
having-more conds i d nodes below = rw (drop_more conds i d below) refl

pub having-end : (conds : List Having) (i : ℕ) (nodes : List PlanNode) → length conds ≤ i
    → over_all (map kept_by (drop i conds)) nodes ≡ nodes
having-end conds i nodes past = rw (drop_all i conds past) refl

-- past a table
pub attached-grows : (schema : Schema) (t : TableId) (links : List Cond) (left : ℕ) (nodes : List PlanNode)
    → length nodes ≤ length (attached_on schema t links left nodes)
attached-grows schema t [] left nodes = omega (arith, length-append {A = PlanNode})
attached-grows schema t (first ∷ rest) left nodes =
    let more = over_all-grows (map selection rest) (beside_last (join_by schema t first) left nodes) in
    omega (arith, more, length-append {A = PlanNode})

pub table-grows : (schema : Schema) (q : Query) (earlier : List TableId) (t : TableId) (nodes : List PlanNode)
    → length nodes ≤ length (table_on schema q earlier t nodes)
table-grows schema q earlier t nodes =
    let attached = attached-grows schema t (filter (joins schema earlier t) q.conds) (length nodes - 1) (branch_on schema q t nodes) in
    let branch = branch-grows schema q t nodes in
    omega (arith, attached, branch)

pub tables-grow : (schema : Schema) (q : Query) (earlier rest : List TableId) (nodes : List PlanNode)
    → length nodes ≤ length (tables_after schema q earlier rest nodes)
tables-grow schema q earlier [] nodes = omega arith
tables-grow schema q earlier (t ∷ rest) nodes =
    let more = tables-grow schema q (earlier ++ t ∷ []) rest (table_on schema q earlier t nodes) in
    let here = table-grows schema q earlier t nodes in
    omega (arith, more, here)

pub tables-more : (schema : Schema) (q : Query) (tables : List TableId) (at : ℕ) (d : TableId) (nodes : List PlanNode) → at < length tables
    → tables_after schema q (take at tables) (drop at tables) nodes
    ≡ tables_after schema q (take (at + 1) tables) (drop (at + 1) tables) (table_on schema q (take at tables) (get_or tables at d) nodes)
tables-more schema q tables at d nodes below = rw (drop_more tables at d below, take_more tables at d below) refl

pub tables-end : (schema : Schema) (q : Query) (tables : List TableId) (at : ℕ) (nodes : List PlanNode) → length tables ≤ at
    → tables_after schema q (take at tables) (drop at tables) nodes ≡ nodes
tables-end schema q tables at nodes past = rw (drop_all at tables past) refl

-- the first of the conditions that link a table, and those that follow it
pub attached-none : (schema : Schema) (t : TableId) (test : Cond → Bool) (conds : List Cond) (left : ℕ) (nodes : List PlanNode)
    → position test conds ≡ None → attached_on schema t (filter test conds) left nodes ≡ beside_last op.Product left nodes
attached-none schema t test conds left nodes none =
    let past : length conds ≤ position_or_len test conds = past_end (position_or_len test conds) (length conds) none in
    rw (none_pass test conds (λ k d below. fails_before_first test conds k d (omega (arith, past, below)))) refl

pub attached-some : (schema : Schema) (t : TableId) (test : Cond → Bool) (conds : List Cond) (left : ℕ) (nodes : List PlanNode) (at : ℕ) (d : Cond)
    → position test conds ≡ Some at
    → attached_on schema t (filter test conds) left nodes
    ≡ over_kept test (drop (at + 1) conds) (beside_last (join_by schema t (get_or conds at d)) left nodes)
attached-some schema t test conds left nodes at d found =
    let place = position-Some test conds at d found in
    rw (add-one, one_passes test conds at d place.0 place.1 place.2) refl

pub below-some : (test : Cond → Bool) (conds : List Cond) (at : ℕ) → position test conds ≡ Some at → at < length conds
below-some test conds at found = position-below test conds at found

-- all tables
pub tables-first : (schema : Schema) (q : Query) (tables : List TableId) (d : TableId) → 1 ≤ length tables
    → tables_on schema q tables ≡ tables_after schema q (take 1 tables) (drop 1 tables) (branch_on schema q (get_or tables 0 d) [])
tables-first schema q [] d some = absurd (omega arith)
tables-first schema q (first ∷ rest) d some = refl

pub ruleset building = (
  over_all-grows,
  over_all-append,
  kept-grows,
  branch-grows,
  kept-more,
  kept-end,
  having-more,
  having-end,
  attached-grows,
  table-grows,
  tables-grow,
  tables-more,
  tables-end,
  attached-none,
  attached-some,
  below-some,
  tables-first,
)

pub ruleset rest = (take_rest)
