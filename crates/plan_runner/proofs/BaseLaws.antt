-- The leaf of a table: what it asks, and what is known of the run after it.
use Rattle.std.proofs.Common.{◌≡◌, ℕ, suc, ◌+◌, ◌≤◌, List, [], ◌∷◌, length, map, Option, Some, None, refl, sym, ◌∙◌, ap, subst, add-one, arith}
use Rattle.std.specs.Prelude.{IsSome}
use Rattle.std.proofs.lemmas.List.{length-map}
use Rattle.std.proofs.lemmas.List.FromFn.{length-map-range_with_len}
use Rattle.mq_base.specs.declared.ids.TableId.{TableId}
use Rattle.mq_base.specs.declared.plan.Step.{Step}
use Rattle.mq_base.specs.declared.plan.Step.TheVariants as step
use Rattle.mq_base.specs.declared.table.PlainTable.{PlainTable}
use Rattle.extended_plan.specs.Setting.{Setting, leaf_of}
use Rattle.extended_plan.specs.StepList.{last_fault, outcome_after}
use Rattle.extended_plan.specs.Term.{Leaf}
use Rattle.extended_plan.specs.Validity.{used_at}
use Rattle.provider_engine.proofs.NodeLaws.{leaf_tree}
use Rattle.provider_engine.specs.declared.held.Held.{Held}
use Rattle.provider_engine.specs.Decoding.{IsRun}
use Rattle.provider_engine.specs.Held.{node_of}
use Rattle.provider_engine.specs.Opening.{seals_of}
use Rattle.provider_engine.specs.Run.{plain_row, sealed_rows}
use Rattle.provider_engine.specs.Wide.{NoneIsWide, tree_of_node}
use Rattle.row_algebra.specs.Contents.{Contents, row_at}
use Rattle.row_algebra.specs.Rows.{cut}
use Rattle.plan_runner.proofs.GoesLaws.{IsSound, goes_to, on_none, sound}
use Rattle.plan_runner.proofs.OrderLaws.{order_goes}
use Rattle.plan_runner.specs.inside.Given.{IsGiven}
use Rattle.plan_runner.specs.inside.Made.{IsMadeOfLeaf, IsReadyForLeaf}
use Rattle.plan_runner.specs.inside.Order.{taken}
use Rattle.plan_runner.specs.inside.Stack.{IsHeldFor}
use Rattle.plan_runner.specs.inside.UnderWay.{AreMade, AreWaiting, IsUnderWay}

-- a table waits
pub base_there : (s : Setting) (contents : Contents) (t : TableId) (left : List Step) (waiting : List PlainTable)
    → AreWaiting s contents (step.Base t ∷ left) waiting → 1 ≤ length waiting
base_there s contents t left (table ∷ waiting) are = omega arith
base_there s contents t left [] are = let none : t ∷ taken left ≡ [] = are.takes in cc

-- which is the leaf's
first_table : (t u : TableId) (rest others : List TableId) → t ∷ rest ≡ u ∷ others → (t ≡ u) × (rest ≡ others)
first_table t u rest others same = (cc, cc)

leaf_sound : (s : Setting) (keys : List (List ℕ)) (contents : Contents) (t : TableId) (left : List Step) (place : ℕ) (stack : List Held)
    → AreMade s keys contents (step.Base t ∷ left) place stack → IsSound s (Leaf t)
leaf_sound s keys contents t left place stack are =
    let next = goes_to s are.terms place (step.Base t) left are.totals are.goes in
    sound s (Leaf t) (subst (λ terms. last_fault s terms ≡ None) (on_none t are.terms next.next next.makes) next.clear)

-- so its leaf can be made
pub base_ready : (s : Setting) (keys : List (List ℕ)) (contents : Contents) (t : TableId) (left : List Step) (place : ℕ) (table : PlainTable)
    (waiting : List PlainTable) (stack : List Held) → IsUnderWay s keys contents (step.Base t ∷ left) place (table ∷ waiting) stack
    → IsReadyForLeaf s table
base_ready s keys contents t left place table waiting stack under =
    let same = first_table t table.table (taken left) (map (λ (table : PlainTable). table.table) waiting) under.tables.takes in
    let is = leaf_sound s keys contents t left place stack under.made in
    record {
      leaf = subst (λ u. IsSome (leaf_of s u)) same.0 (subst (λ (o : Option ℕ). IsSome o) (sym is.gives) refl);
      schema = under.tables.given.0.schema;
      form = under.tables.given.0.form;
    }

leaf_narrow : (s : Setting) (keys : List (List ℕ)) (contents : Contents) → IsRun s keys contents → (table : PlainTable) → IsGiven s contents table
    → (n : ℕ) → leaf_of s table.table ≡ Some n → NoneIsWide contents (tree_of_node s.basis.nodes n)
leaf_narrow s keys contents run table given n gives =
    let leaf = leaf_tree s run.ready table.table n gives in
    subst (NoneIsWide contents) (sym leaf.is) (
      omega (
        arith,
        length-map (contents table.table.0) (cut leaf.used.0),
        ap length given.rows,
        length-map-range_with_len (row_at s.policy.schema table) 0 table.rows,
        given.form.few_rows,
      ),
      tt,
    )

leaf_stands : (s : Setting) (keys : List (List ℕ)) (contents : Contents) → IsRun s keys contents → (place : ℕ) (table : PlainTable)
    → IsGiven s contents table → (made : Held) → IsMadeOfLeaf s keys place table made → IsHeldFor s keys contents place (Leaf table.table) made
leaf_stands s keys contents run place table given made told = record {
  gives = told.node;
  runs = refl;
  state = told.state;
  rows =
      told.rows
      ∙ ap (λ rows. sealed_rows (seals_of s.basis.clusters keys) s.policy.rest.0 place (map (λ r. plain_row (cut (used_at s table.table) r)) rows))
      (sym given.rows);
  of_job = told.of_job;
  opened = told.opened;
  narrow = leaf_narrow s keys contents run table given (node_of made).0 told.node;
}

-- the run after it
pub base_goes : (s : Setting) (keys : List (List ℕ)) (contents : Contents) → IsRun s keys contents → (t : TableId) (left : List Step) (place : ℕ)
    (table : PlainTable) (waiting : List PlainTable) (made : Held) (stack : List Held)
    → IsUnderWay s keys contents (step.Base t ∷ left) place (table ∷ waiting) stack → IsMadeOfLeaf s keys place table made
    → IsUnderWay s keys contents left (place + 1) waiting (made ∷ stack)
base_goes s keys contents run t left place table waiting made stack under told =
    let same = first_table t table.table (taken left) (map (λ (table : PlainTable). table.table) waiting) under.tables.takes in
    let next = goes_to s under.made.terms place (step.Base t) left under.made.totals under.made.goes in
    record {
      made = record {
        terms = Leaf t ∷ under.made.terms;
        held = (
          record {
            start = place;
            ends = refl;
            stands =
                subst (λ u. IsHeldFor s keys contents place (Leaf u) made) (sym same.0)
                (leaf_stands s keys contents run place table under.tables.given.0 made told);
          },
          under.made.held,
        );
        totals = under.made.totals;
        goes =
            ap (λ i. outcome_after s (Leaf t ∷ under.made.terms) i left) (add-one place)
            ∙ ap (λ terms. outcome_after s terms (suc place) left) (sym (on_none t under.made.terms next.next next.makes)) ∙ next.goes;
      };
      tables = record { takes = same.1; given = under.tables.given.1 };
      order =
          order_goes s contents (step.Base t) left (node_of made).0 (ap (leaf_of s) same.0 ∙ told.node)
          (leaf_narrow s keys contents run table under.tables.given.0 (node_of made).0 told.node) under.order;
    }
