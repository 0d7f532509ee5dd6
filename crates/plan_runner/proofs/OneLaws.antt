-- A step on one table: what it asks, and what is known of the run after it.
use Rattle.std.proofs.Common.{◌≡◌, ℕ, suc, ◌+◌, ◌^◌, ◌<◌, ◌≤◌, true, List, [], ◌∷◌, ◌++◌, length, Option, Some, None, Ok, refl, sym, ◌∙◌, ap, subst, add-one, arith}
use Rattle.std.specs.Prelude.{IsSome}
use Rattle.std.proofs.lemmas.List.{length-append}
use Rattle.base_laws.proofs.BoolLaws.{both}
use Rattle.base_laws.proofs.FilterLaws.{each_append}
use Rattle.mq_base.specs.declared.ids.NodeId.{NodeId}
use Rattle.mq_base.specs.declared.plan.Step.{Step}
use Rattle.mq_base.specs.declared.plan.Step.TheVariants as step
use Rattle.mq_base.specs.declared.table.PlainTable.{PlainTable}
use Rattle.plan_algebra.specs.declared.kind.Kind.TheVariants as kind
use Rattle.plan_algebra.specs.Meaning.{node_rows}
use Rattle.plan_algebra.specs.Nodes.{subtrees}
use Rattle.plan_algebra.specs.Tree.{Tree, One, sem}
use Rattle.extended_plan.proofs.PlaceLaws.{one_operand}
use Rattle.extended_plan.specs.declared.state.PlanTotals.{PlanTotals}
use Rattle.extended_plan.specs.declared.state.State.{State}
use Rattle.extended_plan.specs.Setting.{Setting, kind_at, op_at}
use Rattle.extended_plan.specs.States.{state}
use Rattle.extended_plan.specs.StepList.{last_fault, outcome_after}
use Rattle.extended_plan.specs.Term as term
use Rattle.extended_plan.specs.Term.{Term, Enc, Dec, Send, Un, spell}
use Rattle.extended_plan.specs.Validity.{profile, runnable}
use Rattle.column_table.proofs.ColumnLaws.{rows_length}
use Rattle.provider_engine.proofs.DecodeLaws.{frame_of, run_tells, un_tells}
use Rattle.provider_engine.proofs.NodeLaws.{one_tree}
use Rattle.provider_engine.proofs.TypedLaws.{has_group}
use Rattle.provider_engine.proofs.CellLaws.{Tells}
use Rattle.provider_engine.specs.declared.held.Held.{Held}
use Rattle.column_table.specs.Cells.{Seals}
use Rattle.column_table.specs.Columns.{shown_columns}
use Rattle.provider_engine.specs.Decoding.{IsRun}
use Rattle.provider_engine.specs.Held.{node_of, state_of, table_of}
use Rattle.provider_engine.specs.OfJob.{IsOfJob, IsOpenedBy}
use Rattle.provider_engine.specs.Opening.{seals_of}
use Rattle.provider_engine.specs.Run.{enc_run}
use Rattle.provider_engine.specs.Steps.{IsRunnableOn, node_after, rows_after, state_after}
use Rattle.provider_engine.specs.Wide.{NoneIsWide, tree_of_node}
use Rattle.column_table.specs.Tables.{most_rows}
use Rattle.row_algebra.proofs.LikenessLaws.{beside_length}
use Rattle.row_algebra.specs.Contents.{Contents}
use Rattle.row_algebra.specs.Likeness.{IsLike}
use Rattle.row_algebra.specs.Values.{value_tests}
use Rattle.plan_runner.proofs.GoesLaws.{IsSound, goes_to, on_one, one_made, sound}
use Rattle.plan_runner.proofs.OrderLaws.{order_goes, order_stays}
use Rattle.plan_runner.proofs.StateLaws.{one_from, one_state}
use Rattle.plan_runner.specs.inside.Order.{taken}
use Rattle.plan_runner.specs.inside.Made.{IsMadeOnOne}
use Rattle.plan_runner.specs.inside.Stack.{AreHeldTo, IsHeldFor, IsHeldTo}
use Rattle.plan_runner.specs.inside.UnderWay.{AreMade, IsInOrder, IsOnOneStep, IsUnderWay}

-- a table that is held has no more rows than a table can have
pub few_rows : (held : Held) → length (table_of held) ≤ most_rows
few_rows held = omega (arith, rows_length (shown_columns held.table.columns) held.table.counts held.table.rows, held.table.few)

-- ---- the node of the step is not wide

-- the table of a node on one operand has as many rows as the node
one_length : (s : Setting) (keys : List (List ℕ)) (contents : Contents) → IsRun s keys contents → (start : ℕ) (m k : NodeId) (x : Term)
    → kind_at s m.0 ≡ kind.One k → term.node_of s x ≡ Some k.0 → runnable s (Un m x) ≡ true → start + length (spell x) ≤ 2 ^ 32
    → NoneIsWide contents (tree_of_node s.basis.nodes k.0)
    → length (enc_run s (seals_of s.basis.clusters keys) contents start (Un m x)) ≡ length (node_rows value_tests contents s.basis.nodes m.0)
one_length s keys contents run start m k x is gives runs few narrow =
    beside_length (IsLike (Tells (frame_of s keys) (has_group (tree_of_node s.basis.nodes m.0)) (profile s (Un m x)))) _ _
    (un_tells s keys contents run start m k x is gives runs narrow
    (run_tells s keys contents run x k.0 start (record { gives = gives; runs = (both _ _ runs).0; few = few; narrow = narrow })))

narrow_over : (contents : Contents) (s : Setting) (m k : ℕ) (tree : Tree) → tree ≡ One (op_at s m) (tree_of_node s.basis.nodes k)
    → NoneIsWide contents (tree_of_node s.basis.nodes k) → length (sem value_tests contents tree) ≤ most_rows → NoneIsWide contents tree
narrow_over contents s m k tree is narrow few =
    subst (NoneIsWide contents) (sym is)
    (each_append (λ t. length (sem value_tests contents t) ≤ most_rows) (subtrees (tree_of_node s.basis.nodes k))
    (One (op_at s m) (tree_of_node s.basis.nodes k) ∷ []) narrow (subst (λ t. length (sem value_tests contents t) ≤ most_rows) is few, tt))

un_narrow : (s : Setting) (keys : List (List ℕ)) (contents : Contents) → IsRun s keys contents → (start : ℕ) (m from : NodeId) (n : ℕ) (x : Term)
    → term.node_of s x ≡ Some from.0 → term.node_of s (Un m x) ≡ Some n → runnable s (Un m x) ≡ true → start + length (spell x) ≤ 2 ^ 32
    → NoneIsWide contents (tree_of_node s.basis.nodes from.0) → (made : Held)
    → table_of made ≡ enc_run s (seals_of s.basis.clusters keys) contents start (Un m x) → NoneIsWide contents (tree_of_node s.basis.nodes m.0)
un_narrow s keys contents run start m from n x at gives runs few narrow made rows =
    let of = (one_operand s m n x gives).1 in
    let same : from.0 ≡ of.operand.0 = same_given from.0 of.operand.0 (term.node_of s x) at of.gives in
    let below : NoneIsWide contents (tree_of_node s.basis.nodes of.operand.0) =
    subst (λ i. NoneIsWide contents (tree_of_node s.basis.nodes i)) same narrow in
    narrow_over contents s m.0 of.operand.0 (tree_of_node s.basis.nodes m.0) (one_tree s run.ready m.0 of.operand of.kind) below
    (omega (
      arith,
      one_length s keys contents run start m of.operand x of.kind of.gives runs few below,
      ap length rows,
      few_rows made,
    ))
  where
    same_given : (a b : ℕ) (o : _) → o ≡ Some a → o ≡ Some b → a ≡ b
    same_given a b o one other = let both : Some a ≡ Some b = sym one ∙ other in cc

-- ---- the table that the step makes

one_node : (s : Setting) (taking : Step) → IsOnOneStep taking → (x : Term) (from : NodeId) (m : ℕ) → term.node_of s x ≡ Some from.0
    → term.node_of s (one_made taking x) ≡ Some m → term.node_of s (one_made taking x) ≡ Some (node_after taking from).0
one_node s (step.Base t) on x from m at gives = absurd on
one_node s (step.Bin n) on x from m at gives = absurd on
one_node s (step.Enc a) on x from m at gives = at
one_node s (step.Dec a) on x from m at gives = at
one_node s (step.Send to) on x from m at gives = at
one_node s (step.Un n) on x from m at gives = gives ∙ ap (λ i. Some i) (sym (one_operand s n m x gives).0)

one_rows : (s : Setting) (seals : Seals) (contents : Contents) (start : ℕ) (taking : Step) → IsOnOneStep taking → (x : Term)
    → rows_after s seals (start + length (spell x)) taking (enc_run s seals contents start x) ≡ enc_run s seals contents start (one_made taking x)
one_rows s seals contents start (step.Base t) on x = absurd on
one_rows s seals contents start (step.Bin n) on x = absurd on
one_rows s seals contents start (step.Enc a) on x = refl
one_rows s seals contents start (step.Dec a) on x = refl
one_rows s seals contents start (step.Send to) on x = refl
one_rows s seals contents start (step.Un n) on x = refl

one_narrow : (s : Setting) (keys : List (List ℕ)) (contents : Contents) → IsRun s keys contents → (start : ℕ) (taking : Step)
    → IsOnOneStep taking → (x : Term) (from : NodeId) (m : ℕ) → term.node_of s x ≡ Some from.0
    → term.node_of s (one_made taking x) ≡ Some m → runnable s (one_made taking x) ≡ true → start + length (spell x) ≤ 2 ^ 32
    → NoneIsWide contents (tree_of_node s.basis.nodes from.0) → (made : Held)
    → table_of made ≡ enc_run s (seals_of s.basis.clusters keys) contents start (one_made taking x)
    → NoneIsWide contents (tree_of_node s.basis.nodes (node_after taking from).0)
one_narrow s keys contents run start (step.Base t) on x from m at gives runs few narrow made rows = absurd on
one_narrow s keys contents run start (step.Bin n) on x from m at gives runs few narrow made rows = absurd on
one_narrow s keys contents run start (step.Enc a) on x from m at gives runs few narrow made rows = narrow
one_narrow s keys contents run start (step.Dec a) on x from m at gives runs few narrow made rows = narrow
one_narrow s keys contents run start (step.Send to) on x from m at gives runs few narrow made rows = narrow
one_narrow s keys contents run start (step.Un n) on x from m at gives runs few narrow made rows =
    un_narrow s keys contents run start n from m x at gives runs few narrow made rows

same_some : (a b : State) → Some a ≡ Some b → a ≡ b
same_some a b same = cc

one_stands : (s : Setting) (keys : List (List ℕ)) (contents : Contents) → IsRun s keys contents → (start place : ℕ) (taking : Step)
    → IsOnOneStep taking → (x : Term) (held made : Held) → start + length (spell x) ≡ place → place < 2 ^ 32
    → IsHeldFor s keys contents start x held → IsSound s (one_made taking x) → IsMadeOnOne s keys taking place held made
    → IsHeldFor s keys contents start (one_made taking x) made
one_stands s keys contents run start place taking on x held made ends few stands is told = record {
  gives = one_node s taking on x (node_of held) is.node stands.gives is.gives ∙ ap (λ (i : NodeId). Some i.0) (sym told.node);
  runs = is.runs;
  state =
      same_some (state_of made) (state s (one_made taking x))
      (sym told.state ∙ ap (state_after s (node_of held) taking) stands.state
      ∙ one_state s run.ready taking on x (node_of held) is.node stands.gives is.gives is.runs);
  rows = rows;
  of_job = told.of_job;
  opened = told.opened;
  narrow =
      subst (λ (i : NodeId). NoneIsWide contents (tree_of_node s.basis.nodes i.0)) (sym told.node)
      (one_narrow s keys contents run start taking on x (node_of held) is.node stands.gives is.gives is.runs (omega (arith, ends, few))
      stands.narrow made rows);
}
  where
    rows : table_of made ≡ enc_run s (seals_of s.basis.clusters keys) contents start (one_made taking x)
    rows =
        told.rows ∙ ap (rows_after s (seals_of s.basis.clusters keys) place taking) stands.rows
        ∙ ap (λ i. rows_after s (seals_of s.basis.clusters keys) i taking (enc_run s (seals_of s.basis.clusters keys) contents start x)) (sym ends)
        ∙ one_rows s (seals_of s.basis.clusters keys) contents start taking on x

one_longer : (taking : Step) → IsOnOneStep taking → (x : Term) → spell (one_made taking x) ≡ spell x ++ taking ∷ []
one_longer (step.Base t) on x = absurd on
one_longer (step.Bin n) on x = absurd on
one_longer (step.Enc a) on x = refl
one_longer (step.Dec a) on x = refl
one_longer (step.Send to) on x = refl
one_longer (step.Un n) on x = refl

-- ---- the run

-- the table on top stands for the term that a step on one table takes
pub record HasOneOn (s : Setting) (keys : List (List ℕ)) (contents : Contents) (taking : Step) (left : List Step) (place : ℕ) (held : Held)
    (stack : List Held) : Type 0 where
  pub operand : Term
  pub below : List Term
  pub top : IsHeldTo s keys contents place operand held
  pub others : AreHeldTo s keys contents top.start below stack
  pub is : IsSound s (one_made taking operand)
  pub totals : PlanTotals
  pub goes : outcome_after s (one_made taking operand ∷ below) (suc place) left ≡ Ok totals

pub has_one : (s : Setting) (keys : List (List ℕ)) (contents : Contents) (taking : Step) → IsOnOneStep taking → (left : List Step) (place : ℕ)
    (held : Held) (stack : List Held) → AreMade s keys contents (taking ∷ left) place (held ∷ stack)
    → HasOneOn s keys contents taking left place held stack
has_one s keys contents taking on left place held stack are =
    let next = goes_to s are.terms place taking left are.totals are.goes in
    let one = on_one taking are.terms next.next on next.makes in
    let stands : AreHeldTo s keys contents place (one.operand ∷ one.below) (held ∷ stack) =
    subst (λ terms. AreHeldTo s keys contents place terms (held ∷ stack)) one.had are.held in
    record {
      operand = one.operand;
      below = one.below;
      top = stands.0;
      others = stands.1;
      is = sound s (one_made taking one.operand) (subst (λ terms. last_fault s terms ≡ None) one.makes next.clear);
      totals = are.totals;
      goes = subst (λ terms. outcome_after s terms (suc place) left ≡ Ok are.totals) one.makes next.goes;
    }

-- there is such a table
pub one_there : (s : Setting) (keys : List (List ℕ)) (contents : Contents) (taking : Step) → IsOnOneStep taking → (left : List Step) (place : ℕ)
    (stack : List Held) → AreMade s keys contents (taking ∷ left) place stack → 1 ≤ length stack
one_there s keys contents taking on left place (held ∷ stack) are = omega arith
one_there s keys contents taking on left place [] are =
    let next = goes_to s are.terms place taking left are.totals are.goes in
    let one = on_one taking are.terms next.next on next.makes in
    absurd (subst (λ terms. AreHeldTo s keys contents place terms []) one.had are.held)

-- and the step is runnable on it
pub one_runnable : (s : Setting) (keys : List (List ℕ)) (contents : Contents) → IsRun s keys contents → (taking : Step) → IsOnOneStep taking
    → (left : List Step) (place : ℕ) (held : Held) (stack : List Held) → AreMade s keys contents (taking ∷ left) place (held ∷ stack)
    → IsOfJob s held × IsOpenedBy s keys held × IsRunnableOn s taking held
one_runnable s keys contents run taking on left place held stack are =
    let one = has_one s keys contents taking on left place held stack are in
    let stands = one.top.stands in
    let after : state_after s (node_of held) taking (state_of held) ≡ Some (state s (one_made taking one.operand)) =
    ap (state_after s (node_of held) taking) stands.state
    ∙ one_state s run.ready taking on one.operand (node_of held) one.is.node stands.gives one.is.gives one.is.runs in (
      stands.of_job,
      stands.opened,
      record {
        from = one_from s taking on one.operand (node_of held) one.is.node stands.gives one.is.gives;
        runs = subst (λ (o : Option State). IsSome o) (sym after) refl;
      },
    )

one_takes : (taking : Step) → IsOnOneStep taking → (left : List Step) → taken (taking ∷ left) ≡ taken left
one_takes (step.Base t) on left = absurd on
one_takes (step.Bin n) on left = absurd on
one_takes (step.Enc a) on left = refl
one_takes (step.Dec a) on left = refl
one_takes (step.Send to) on left = refl
one_takes (step.Un n) on left = refl

one_order : (s : Setting) (contents : Contents) (taking : Step) → IsOnOneStep taking → (from : NodeId)
    → NoneIsWide contents (tree_of_node s.basis.nodes (node_after taking from).0) → (left : List Step)
    → IsInOrder s contents (taking ∷ left) → IsInOrder s contents left
one_order s contents (step.Base t) on from narrow left order = absurd on
one_order s contents (step.Bin n) on from narrow left order = absurd on
one_order s contents (step.Enc a) on from narrow left order = order_stays s contents (step.Enc a) left refl order
one_order s contents (step.Dec a) on from narrow left order = order_stays s contents (step.Dec a) left refl order
one_order s contents (step.Send to) on from narrow left order = order_stays s contents (step.Send to) left refl order
one_order s contents (step.Un n) on from narrow left order = order_goes s contents (step.Un n) left n.0 refl narrow order

-- the run after it
pub one_goes : (s : Setting) (keys : List (List ℕ)) (contents : Contents) → IsRun s keys contents → (taking : Step) → IsOnOneStep taking
    → (left : List Step) (place : ℕ) → place < 2 ^ 32 → (waiting : List PlainTable) (held made : Held) (stack : List Held)
    → IsUnderWay s keys contents (taking ∷ left) place waiting (held ∷ stack) → IsMadeOnOne s keys taking place held made
    → IsUnderWay s keys contents left (place + 1) waiting (made ∷ stack)
one_goes s keys contents run taking on left place few waiting held made stack under told =
    let one = has_one s keys contents taking on left place held stack under.made in
    let stands = one_stands s keys contents run one.top.start place taking on one.operand held made one.top.ends few one.top.stands one.is told in
    record {
      made = record {
        terms = one_made taking one.operand ∷ one.below;
        held = (
          record {
            start = one.top.start;
            ends =
                omega (arith, one.top.ends, ap length (one_longer taking on one.operand), length-append (spell one.operand) (taking ∷ []));
            stands = stands;
          },
          one.others,
        );
        totals = one.totals;
        goes = ap (λ i. outcome_after s (one_made taking one.operand ∷ one.below) i left) (add-one place) ∙ one.goes;
      };
      tables = record { takes = sym (one_takes taking on left) ∙ under.tables.takes; given = under.tables.given };
      order =
          one_order s contents taking on (node_of held)
          (subst (λ (i : NodeId). NoneIsWide contents (tree_of_node s.basis.nodes i.0)) told.node stands.narrow) left under.order;
    }
