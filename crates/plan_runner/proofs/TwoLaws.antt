-- The operation of a node on two tables: what it asks, what is known of the run after it, and which node it stops at.
use Rattle.std.proofs.Common.{◌≡◌, ℕ, suc, ◌+◌, ◌^◌, ◌<◌, ◌≤◌, List, [], ◌∷◌, ◌++◌, length, Option, Some, None, Ok, refl, sym, ◌∙◌, ap, subst, add-one, arith}
use Rattle.std.specs.Prelude.{IsSome}
use Rattle.std.proofs.lemmas.List.{length-append}
use Rattle.base_laws.proofs.BoolLaws.{both}
use Rattle.base_laws.proofs.FilterLaws.{each_append}
use Rattle.mq_base.specs.declared.ids.NodeId.{NodeId}
use Rattle.mq_base.specs.declared.plan.Step.{Step}
use Rattle.mq_base.specs.declared.plan.Step.TheVariants as step
use Rattle.mq_base.specs.declared.table.PlainTable.{PlainTable}
use Rattle.plan_algebra.specs.Meaning.{node_rows}
use Rattle.plan_algebra.specs.Nodes.{subtrees}
use Rattle.plan_algebra.specs.Tree.{Tree, Two, apply_two, sem}
use Rattle.extended_plan.proofs.PlaceLaws.{two_operands}
use Rattle.extended_plan.specs.declared.state.PlanTotals.{PlanTotals}
use Rattle.extended_plan.specs.declared.state.State.{State}
use Rattle.extended_plan.specs.Setting.{Setting, op_at}
use Rattle.extended_plan.specs.States.{state}
use Rattle.extended_plan.specs.StepList.{last_fault, outcome_after}
use Rattle.extended_plan.specs.Term as term
use Rattle.extended_plan.specs.Term.{Term, Bin, holder, spell}
use Rattle.extended_plan.specs.Validity.{profile, runnable}
use Rattle.provider_engine.proofs.CellLaws.{Tells}
use Rattle.provider_engine.proofs.DecodeLaws.{bin_tells, frame_of, run_tells}
use Rattle.provider_engine.proofs.NodeLaws.{two_tree}
use Rattle.provider_engine.proofs.TypedLaws.{has_group}
use Rattle.provider_engine.specs.declared.held.Held.{Held}
use Rattle.column_table.specs.Cells.{cell_tests}
use Rattle.provider_engine.specs.Decoding.{IsRun}
use Rattle.provider_engine.specs.Held.{node_of, state_of, table_of}
use Rattle.provider_engine.specs.Opening.{seals_of}
use Rattle.provider_engine.specs.Run.{enc_run}
use Rattle.provider_engine.specs.Steps.{state_after_two}
use Rattle.provider_engine.specs.Wide.{NoneIsWide, tree_of_node}
use Rattle.column_table.specs.Tables.{most_rows}
use Rattle.row_algebra.proofs.LikenessLaws.{beside_length}
use Rattle.row_algebra.specs.Contents.{Contents}
use Rattle.row_algebra.specs.Likeness.{IsLike}
use Rattle.row_algebra.specs.Values.{value_tests}
use Rattle.plan_runner.proofs.GoesLaws.{IsSound, goes_to, on_two, sound}
use Rattle.plan_runner.proofs.OneLaws.{few_rows}
use Rattle.plan_runner.proofs.OrderLaws.{next_done, order_goes}
use Rattle.plan_runner.proofs.StateLaws.{IsOnBoth, on_both}
use Rattle.plan_runner.specs.inside.Made.{IsMadeOnTwo, IsReadyForTwo}
use Rattle.plan_runner.specs.inside.Stack.{AreHeldTo, IsHeldFor, IsHeldTo}
use Rattle.plan_runner.specs.inside.UnderWay.{AreMade, IsUnderWay}
use Rattle.plan_runner.specs.Running.{IsFirstWide}

-- ---- two tables on top

-- the two tables on top stand for the terms that the operation of a node takes, the right one above the left
pub record HasTwoOn (s : Setting) (keys : List (List ℕ)) (contents : Contents) (n : NodeId) (rest : List Step) (place : ℕ) (left right : Held)
    (stack : List Held) : Type 0 where
  pub x : Term
  pub y : Term
  pub below : List Term
  pub top : IsHeldTo s keys contents place y right
  pub next : IsHeldTo s keys contents top.start x left
  pub others : AreHeldTo s keys contents next.start below stack
  pub is : IsSound s (Bin n x y)
  pub totals : PlanTotals
  pub goes : outcome_after s (Bin n x y ∷ below) (suc place) rest ≡ Ok totals

pub has_two : (s : Setting) (keys : List (List ℕ)) (contents : Contents) (n : NodeId) (rest : List Step) (place : ℕ) (left right : Held)
    (stack : List Held) → AreMade s keys contents (step.Bin n ∷ rest) place (right ∷ left ∷ stack)
    → HasTwoOn s keys contents n rest place left right stack
has_two s keys contents n rest place left right stack are =
    let next = goes_to s are.terms place (step.Bin n) rest are.totals are.goes in
    let two = on_two n are.terms next.next next.makes in
    let stands : AreHeldTo s keys contents place (two.right ∷ two.left ∷ two.below) (right ∷ left ∷ stack) =
    subst (λ terms. AreHeldTo s keys contents place terms (right ∷ left ∷ stack)) two.had are.held in
    record {
      x = two.left;
      y = two.right;
      below = two.below;
      top = stands.0;
      next = stands.1.0;
      others = stands.1.1;
      is = sound s (Bin n two.left two.right) (subst (λ terms. last_fault s terms ≡ None) two.makes next.clear);
      totals = are.totals;
      goes = subst (λ terms. outcome_after s terms (suc place) rest ≡ Ok are.totals) two.makes next.goes;
    }

-- there are two such tables
pub two_there : (s : Setting) (keys : List (List ℕ)) (contents : Contents) (n : NodeId) (rest : List Step) (place : ℕ) (stack : List Held)
    → AreMade s keys contents (step.Bin n ∷ rest) place stack → 2 ≤ length stack
two_there s keys contents n rest place (right ∷ left ∷ stack) are = omega arith
two_there s keys contents n rest place (right ∷ []) are =
    let next = goes_to s are.terms place (step.Bin n) rest are.totals are.goes in
    let two = on_two n are.terms next.next next.makes in
    let stands : AreHeldTo s keys contents place (two.right ∷ two.left ∷ two.below) (right ∷ []) =
    subst (λ terms. AreHeldTo s keys contents place terms (right ∷ [])) two.had are.held in
    absurd stands.1
two_there s keys contents n rest place [] are =
    let next = goes_to s are.terms place (step.Bin n) rest are.totals are.goes in
    let two = on_two n are.terms next.next next.makes in
    absurd (subst (λ terms. AreHeldTo s keys contents place terms []) two.had are.held)

both_on : (s : Setting) (keys : List (List ℕ)) (contents : Contents) → IsRun s keys contents → (n : NodeId) (rest : List Step) (place : ℕ)
    (left right : Held) (stack : List Held) → (two : HasTwoOn s keys contents n rest place left right stack)
    → IsOnBoth s n (node_of left) (node_of right) two.x two.y
both_on s keys contents run n rest place left right stack two =
    on_both s run.ready n (node_of left) (node_of right) two.x two.y two.is.node two.next.stands.gives two.top.stands.gives two.is.gives two.is.runs

-- the state after the operation
state_both : (s : Setting) (keys : List (List ℕ)) (contents : Contents) → IsRun s keys contents → (n : NodeId) (rest : List Step) (place : ℕ)
    (left right : Held) (stack : List Held) → (two : HasTwoOn s keys contents n rest place left right stack)
    → state_after_two s n (state_of left) (state_of right) ≡ Some (state s (Bin n two.x two.y))
state_both s keys contents run n rest place left right stack two =
    ap (λ (st : State). state_after_two s n st (state_of right)) two.next.stands.state
    ∙ ap (state_after_two s n (state s two.x)) two.top.stands.state
    ∙ (both_on s keys contents run n rest place left right stack two).runs

-- the operation is runnable on them
pub two_runnable : (s : Setting) (keys : List (List ℕ)) (contents : Contents) → IsRun s keys contents → (n : NodeId) (rest : List Step) (place : ℕ)
    (left right : Held) (stack : List Held) → AreMade s keys contents (step.Bin n ∷ rest) place (right ∷ left ∷ stack) → IsReadyForTwo s n left right
two_runnable s keys contents run n rest place left right stack are =
    let two = has_two s keys contents n rest place left right stack are in
    let on = both_on s keys contents run n rest place left right stack two in
    record {
      left_of_job = two.next.stands.of_job;
      right_of_job = two.top.stands.of_job;
      runnable = record {
        node = on.node;
        stands = on.stands;
        one_holder =
            ap (λ (st : State). st.holder) two.next.stands.state ∙ on.one_holder ∙ sym (ap (λ (st : State). st.holder) two.top.stands.state);
        runs = subst (λ (o : Option State). IsSome o) (sym (state_both s keys contents run n rest place left right stack two)) refl;
      };
    }

-- ---- the rows of the node

-- what the operation makes of the two tables is the table of the term
two_rows : (s : Setting) (keys : List (List ℕ)) (contents : Contents) (n : NodeId) (rest : List Step) (place : ℕ)
    (left right : Held) (stack : List Held) → (two : HasTwoOn s keys contents n rest place left right stack)
    → apply_two (cell_tests (seals_of s.basis.clusters keys)) (op_at s n.0) (table_of left) (table_of right)
    ≡ enc_run s (seals_of s.basis.clusters keys) contents two.next.start (Bin n two.x two.y)
two_rows s keys contents n rest place left right stack two =
    ap (λ rows. apply_two (cell_tests (seals_of s.basis.clusters keys)) (op_at s n.0) rows (table_of right)) two.next.stands.rows
    ∙ ap (apply_two (cell_tests (seals_of s.basis.clusters keys)) (op_at s n.0)
    (enc_run s (seals_of s.basis.clusters keys) contents two.next.start two.x))
    (two.top.stands.rows ∙ ap (λ i. enc_run s (seals_of s.basis.clusters keys) contents i two.y) (sym two.next.ends))

-- it has as many rows as the node
two_length : (s : Setting) (keys : List (List ℕ)) (contents : Contents) → IsRun s keys contents → (n : NodeId) (rest : List Step) (place : ℕ)
    (left right : Held) (stack : List Held) → place < 2 ^ 32 → (two : HasTwoOn s keys contents n rest place left right stack)
    → length (enc_run s (seals_of s.basis.clusters keys) contents two.next.start (Bin n two.x two.y))
    ≡ length (node_rows value_tests contents s.basis.nodes n.0)
two_length s keys contents run n rest place left right stack few two =
    let on = both_on s keys contents run n rest place left right stack two in
    let given : term.node_of s (Bin n two.x two.y) ≡ Some n.0 =
    two.is.gives ∙ ap (λ i. Some i) (sym (two_operands s n two.is.node two.x two.y two.is.gives).0) in
    let parts = both (runnable s two.x) _ two.is.runs in
    beside_length (IsLike (Tells (frame_of s keys) (has_group (tree_of_node s.basis.nodes n.0)) (profile s (Bin n two.x two.y)))) _ _
    (bin_tells s keys contents run two.next.start n (node_of left) (node_of right) two.x two.y on.stands given two.is.runs
    (run_tells s keys contents run two.x (node_of left).0 two.next.start (record {
      gives = two.next.stands.gives;
      runs = parts.0;
      few = omega (arith, two.next.ends, two.top.ends, few);
      narrow = two.next.stands.narrow;
    }))
    (run_tells s keys contents run two.y (node_of right).0 (two.next.start + length (spell two.x)) (record {
      gives = two.top.stands.gives;
      runs = (both (runnable s two.y) _ parts.1).0;
      few = omega (arith, two.next.ends, two.top.ends, few);
      narrow = two.top.stands.narrow;
    })))

narrow_over : (contents : Contents) (s : Setting) (n j k : ℕ) (tree : Tree)
    → tree ≡ Two (op_at s n) (tree_of_node s.basis.nodes j) (tree_of_node s.basis.nodes k)
    → NoneIsWide contents (tree_of_node s.basis.nodes j) → NoneIsWide contents (tree_of_node s.basis.nodes k)
    → length (sem value_tests contents tree) ≤ most_rows → NoneIsWide contents tree
narrow_over contents s n j k tree is left right few =
    let is_narrow = λ (t : Tree). length (sem value_tests contents t) ≤ most_rows in
    subst (NoneIsWide contents) (sym is)
    (each_append is_narrow (subtrees (tree_of_node s.basis.nodes j) ++ subtrees (tree_of_node s.basis.nodes k))
    (Two (op_at s n) (tree_of_node s.basis.nodes j) (tree_of_node s.basis.nodes k) ∷ [])
    (each_append is_narrow (subtrees (tree_of_node s.basis.nodes j)) (subtrees (tree_of_node s.basis.nodes k)) left right)
    (subst is_narrow is few, tt))

-- ---- the run

same_some : (a b : State) → Some a ≡ Some b → a ≡ b
same_some a b same = cc

two_narrow : (s : Setting) (keys : List (List ℕ)) (contents : Contents) → IsRun s keys contents → (n : NodeId) (rest : List Step) (place : ℕ)
    (left right made : Held) (stack : List Held) → place < 2 ^ 32 → HasTwoOn s keys contents n rest place left right stack
    → IsMadeOnTwo s keys n left right made → NoneIsWide contents (tree_of_node s.basis.nodes n.0)
two_narrow s keys contents run n rest place left right made stack few two told =
    let on = both_on s keys contents run n rest place left right stack two in
    narrow_over contents s n.0 (node_of left).0 (node_of right).0 (tree_of_node s.basis.nodes n.0)
    (two_tree s run.ready n.0 (node_of left) (node_of right) on.stands) two.next.stands.narrow two.top.stands.narrow
    (omega (
      arith,
      two_length s keys contents run n rest place left right stack few two,
      ap length (told.rows ∙ two_rows s keys contents n rest place left right stack two),
      few_rows made,
    ))

two_stands : (s : Setting) (keys : List (List ℕ)) (contents : Contents) → IsRun s keys contents → (n : NodeId) (rest : List Step) (place : ℕ)
    (left right made : Held) (stack : List Held) → place < 2 ^ 32 → (two : HasTwoOn s keys contents n rest place left right stack)
    → IsMadeOnTwo s keys n left right made → IsHeldFor s keys contents two.next.start (Bin n two.x two.y) made
two_stands s keys contents run n rest place left right made stack few two told = record {
  gives =
      two.is.gives ∙ ap (λ i. Some i) (sym (two_operands s n two.is.node two.x two.y two.is.gives).0)
      ∙ ap (λ (i : NodeId). Some i.0) (sym told.node);
  runs = two.is.runs;
  state =
      same_some (state_of made) (state s (Bin n two.x two.y)) (sym told.state ∙ state_both s keys contents run n rest place left right stack two);
  rows = told.rows ∙ two_rows s keys contents n rest place left right stack two;
  of_job = told.of_job;
  opened = told.opened two.next.stands.opened two.top.stands.opened;
  narrow =
      subst (λ (i : NodeId). NoneIsWide contents (tree_of_node s.basis.nodes i.0)) (sym told.node)
      (two_narrow s keys contents run n rest place left right made stack few two told);
}

-- the run after the operation
pub two_goes : (s : Setting) (keys : List (List ℕ)) (contents : Contents) → IsRun s keys contents → (n : NodeId) (rest : List Step) (place : ℕ)
    → place < 2 ^ 32 → (waiting : List PlainTable) (left right made : Held) (stack : List Held)
    → IsUnderWay s keys contents (step.Bin n ∷ rest) place waiting (right ∷ left ∷ stack) → IsMadeOnTwo s keys n left right made
    → IsUnderWay s keys contents rest (place + 1) waiting (made ∷ stack)
two_goes s keys contents run n rest place few waiting left right made stack under told =
    let two = has_two s keys contents n rest place left right stack under.made in
    record {
      made = record {
        terms = Bin n two.x two.y ∷ two.below;
        held = (
          record {
            start = two.next.start;
            ends =
                omega (
                  arith,
                  two.next.ends,
                  two.top.ends,
                  length-append (spell two.x) (spell two.y),
                  length-append (spell two.x ++ spell two.y) (step.Bin n ∷ []),
                );
            stands = two_stands s keys contents run n rest place left right made stack few two told;
          },
          two.others,
        );
        totals = two.totals;
        goes = ap (λ i. outcome_after s (Bin n two.x two.y ∷ two.below) i rest) (add-one place) ∙ two.goes;
      };
      tables = record { takes = under.tables.takes; given = under.tables.given };
      order =
          order_goes s contents (step.Bin n) rest n.0 refl
          (two_narrow s keys contents run n rest place left right made stack few two told) under.order;
    }

-- where the operation would make too many rows, its node is the first that is wide
pub two_wide : (s : Setting) (keys : List (List ℕ)) (contents : Contents) → IsRun s keys contents → (n : NodeId) (rest : List Step) (place : ℕ)
    → place < 2 ^ 32 → (waiting : List PlainTable) (left right : Held) (stack : List Held)
    → IsUnderWay s keys contents (step.Bin n ∷ rest) place waiting (right ∷ left ∷ stack)
    → most_rows < length (apply_two (cell_tests (seals_of s.basis.clusters keys)) (op_at s n.0) (table_of left) (table_of right))
    → IsFirstWide s contents n.0
two_wide s keys contents run n rest place few waiting left right stack under many =
    let two = has_two s keys contents n rest place left right stack under.made in
    let next = next_done s contents (step.Bin n) rest n.0 refl under.order in
    record {
      below = (both_on s keys contents run n rest place left right stack two).node;
      wide =
          omega (
            arith,
            many,
            two_length s keys contents run n rest place left right stack few two,
            ap length (two_rows s keys contents n rest place left right stack two),
          );
      first = λ m below wide. under.order.narrow m (omega (arith, below, next.0)) wide;
    }
