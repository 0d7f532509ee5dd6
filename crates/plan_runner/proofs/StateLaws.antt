-- The state of a term is that which its last step makes of the states of its operands, in the engine's words.
use Rattle.std.proofs.Common.{◌≡◌, ℕ, true, ◌<◌, ◌==◌, length, Option, Some, None, sym, ◌∙◌, ap}
use Rattle.std.specs.Prelude.{if◌then◌else◌}
use Rattle.std.proofs.lemmas.Bool.{eqb-true}
use Rattle.base_laws.proofs.BoolLaws.{both}
use Rattle.mq_base.specs.declared.ids.NodeId.{NodeId}
use Rattle.mq_base.specs.declared.ids.SubjectId.{SubjectId}
use Rattle.mq_base.specs.declared.plan.Step.{Step}
use Rattle.mq_base.specs.declared.plan.Step.TheVariants as step
use Rattle.plan_algebra.specs.declared.kind.Kind.TheVariants as kind
use Rattle.relation_profile.specs.Runnable.{run_dec, run_enc, run_one, run_two}
use Rattle.relation_profile.specs.Steps.{after_dec, after_enc, after_one, after_two}
use Rattle.extended_plan.proofs.PlaceLaws.{node_below, one_operand, two_operands}
use Rattle.extended_plan.proofs.ViewLaws.{seen}
use Rattle.extended_plan.specs.declared.state.State.{State}
use Rattle.extended_plan.specs.Gains.{one_profile, shown, two_profile}
use Rattle.extended_plan.specs.Ready.{IsReady}
use Rattle.extended_plan.specs.Setting.{Setting, kind_at, op_at, schemes}
use Rattle.extended_plan.specs.States.{state}
use Rattle.extended_plan.specs.Term.{Term, Bin, holder, node_of}
use Rattle.extended_plan.specs.Validity.{profile, runnable}
use Rattle.provider_engine.specs.Steps.{IsTakenFrom, at_holder, state_after, state_after_two}
use Rattle.plan_runner.proofs.GoesLaws.{one_made}
use Rattle.plan_runner.specs.inside.UnderWay.{IsOnOneStep}

shows : (s : Setting) → IsReady s → (x : Term) (n : ℕ) → node_of s x ≡ Some n → runnable s x ≡ true → shown s n (state s x) ≡ profile s x
shows s ready x n gives runs = (seen s ready n x gives runs).shows

-- a step on one table
pub one_state : (s : Setting) → IsReady s → (taking : Step) → IsOnOneStep taking → (x : Term) (from : NodeId) (m : ℕ) → node_of s x ≡ Some from.0
    → node_of s (one_made taking x) ≡ Some m → runnable s (one_made taking x) ≡ true
    → state_after s from taking (state s x) ≡ Some (state s (one_made taking x))
one_state s ready (step.Base t) on x from m at gives runs = absurd on
one_state s ready (step.Bin n) on x from m at gives runs = absurd on
one_state s ready (step.Enc a) on x from m at gives runs =
    ap (λ p. at_holder (holder s x) (run_enc a.0 p)) (shows s ready x from.0 at (both _ _ runs).0)
    ∙ ap (λ b. at_holder (holder s x) (if b then Some (after_enc a.0 (profile s x)) else None)) (both _ _ runs).1
one_state s ready (step.Dec a) on x from m at gives runs =
    ap (λ p. at_holder (holder s x) (run_dec a.0 p)) (shows s ready x from.0 at (both _ _ runs).0)
    ∙ ap (λ b. at_holder (holder s x) (if b then Some (after_dec a.0 (profile s x)) else None)) (both _ _ runs).1
one_state s ready (step.Send to) on x from m at gives runs =
    let sent : Option State = Some (record { holder = to; view = (state s x).view }) in
    ap (λ b. if b then sent else None) (both _ _ runs).1
one_state s ready (step.Un n) on x from m at gives runs =
    let of = (one_operand s n m x gives).1 in
    ap (λ k. at_holder (holder s x) (one_profile s (op_at s n.0) k (state s x))) of.kind
    ∙ ap (λ p. at_holder (holder s x) (run_one (schemes s) (op_at s n.0) p)) (shows s ready x of.operand.0 of.gives (both _ _ runs).0)
    ∙ ap (λ b. at_holder (holder s x) (if b then Some (after_one (op_at s n.0) (profile s x)) else None)) (both _ _ runs).1

same_node : (i j : NodeId) → i.0 ≡ j.0 → i ≡ j
same_node i j same = ap (λ (n : ℕ). record { 0 = n }) same

same_given : (m n : ℕ) (o : Option ℕ) → o ≡ Some m → o ≡ Some n → m ≡ n
same_given m n o one other = let both : Some m ≡ Some n = sym one ∙ other in cc

-- the node of such a step stands on the operand's
pub one_from : (s : Setting) (taking : Step) → IsOnOneStep taking → (x : Term) (from : NodeId) (m : ℕ) → node_of s x ≡ Some from.0
    → node_of s (one_made taking x) ≡ Some m → IsTakenFrom s taking from
one_from s (step.Base t) on x from m at gives = absurd on
one_from s (step.Bin n) on x from m at gives = absurd on
one_from s (step.Enc a) on x from m at gives = tt
one_from s (step.Dec a) on x from m at gives = tt
one_from s (step.Send to) on x from m at gives = tt
one_from s (step.Un n) on x from m at gives =
    let of = (one_operand s n m x gives).1 in
    record {
      node = node_below s n.0 (kind.One of.operand) of.kind (λ e. cc);
      stands = of.kind ∙ ap kind.One (same_node of.operand from (same_given of.operand.0 from.0 (node_of s x) of.gives at));
    }

-- the operation of a node on two tables
pub record IsOnBoth (s : Setting) (n left right : NodeId) (x y : Term) : Type 0 where
  pub node : n.0 < length s.basis.nodes
  pub stands : kind_at s n.0 ≡ kind.Two left right
  pub one_holder : holder s x ≡ holder s y
  pub runs : state_after_two s n (state s x) (state s y) ≡ Some (state s (Bin n x y))

same_subject : (p q : SubjectId) → (p.0 == q.0) ≡ true → p ≡ q
same_subject p q same = ap (λ (n : ℕ). record { 0 = n }) (eqb-true p.0 q.0 same)

pub on_both : (s : Setting) → IsReady s → (n left right : NodeId) (x y : Term) (m : ℕ) → node_of s x ≡ Some left.0 → node_of s y ≡ Some right.0
    → node_of s (Bin n x y) ≡ Some m → runnable s (Bin n x y) ≡ true → IsOnBoth s n left right x y
on_both s ready n left right x y m at other gives runs =
    let of = (two_operands s n m x y gives).1 in
    let parts = both (runnable s x) _ runs in
    let more = both (runnable s y) _ parts.1 in
    let last = both ((holder s x).0 == (holder s y).0) _ more.1 in
    record {
      node = node_below s n.0 (kind.Two of.left_operand of.right_operand) of.kind (λ e. cc);
      stands =
          of.kind
          ∙ ap (λ i. kind.Two i of.right_operand)
          (same_node of.left_operand left (same_given of.left_operand.0 left.0 (node_of s x) of.left_gives at))
          ∙ ap (kind.Two left)
          (same_node of.right_operand right (same_given of.right_operand.0 right.0 (node_of s y) of.right_gives other));
      one_holder = same_subject (holder s x) (holder s y) last.0;
      runs =
          ap (λ k. at_holder (holder s x) (two_profile s (op_at s n.0) k (state s x) (state s y))) of.kind
          ∙ ap (λ p. at_holder (holder s x) (run_two (schemes s) (op_at s n.0) p (shown s of.right_operand.0 (state s y))))
          (shows s ready x of.left_operand.0 of.left_gives parts.0)
          ∙ ap (λ q. at_holder (holder s x) (run_two (schemes s) (op_at s n.0) (profile s x) q))
          (shows s ready y of.right_operand.0 of.right_gives more.0)
          ∙ ap (λ b. at_holder (holder s x) (if b then Some (after_two (op_at s n.0) (profile s x) (profile s y)) else None)) last.1;
    }
