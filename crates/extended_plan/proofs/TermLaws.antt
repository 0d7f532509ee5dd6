-- A term that stands at a node is what its last step gains from the states of its operands, and what a step gains is a term's.
use Rattle.std.proofs.Common.{◌≡◌, ℕ, ◌+◌, Bool, true, false, ◌&&◌, ◌==◌, Option, Some, None, if◌then◌else◌, refl, sym, ◌∙◌, ap}
use Rattle.std.specs.Prelude.{option_map}
use Rattle.std.specs.Option.{option_map_or}
use Rattle.std.proofs.lemmas.Bool.{eq-eqb}
use Rattle.std.proofs.Math.Path.{subst}
use Rattle.base_laws.specs.Sets.{has}
use Rattle.base_laws.proofs.BoolLaws.{both, together}
use Rattle.mq_base.specs.declared.ids.AttrId.{AttrId}
use Rattle.mq_base.specs.declared.ids.NodeId.{NodeId}
use Rattle.mq_base.specs.declared.ids.SubjectId.{SubjectId}
use Rattle.mq_base.specs.declared.ids.TableId.{TableId}
use Rattle.mq_base.specs.declared.plan.Step.{Step}
use Rattle.mq_base.specs.declared.plan.Step.TheVariants as step
use Rattle.cost_model.specs.Costs.{step_work}
use Rattle.plan_algebra.specs.declared.kind.Kind.TheVariants as kind
use Rattle.relation_profile.specs.Profile.{Profile}
use Rattle.relation_profile.specs.Runnable.{run_dec, run_enc, run_one, run_two, runs_one, runs_two}
use Rattle.relation_profile.specs.View.{view_of}
use Rattle.extended_plan.specs.declared.state.State.{State}
use Rattle.extended_plan.specs.Gains.{Gain, dec_gain, enc_gain, held, one_gain, one_profile, send_gain, shown, two_gain, two_profile}
use Rattle.extended_plan.specs.Laws.{GainsAreTerms, HasOperandsFor, IsGained, TermsAreGained, last_gain}
use Rattle.extended_plan.specs.Ready.{IsReady}
use Rattle.extended_plan.specs.Setting.{Setting, kind_at, leaf_of, op_at, schemes}
use Rattle.extended_plan.specs.States.{cost, state, work_on}
use Rattle.extended_plan.specs.Term.{Term, Leaf, Enc, Dec, Send, Un, Bin, holder, node_of, stands_on, stands_on_both}
use Rattle.extended_plan.specs.Validity.{StandsAt, is_held, may_get, may_hold, profile}
use Rattle.extended_plan.proofs.PlaceLaws.{one_operand, two_operands}
use Rattle.extended_plan.proofs.ViewLaws.{fits}

-- what is shown by the state of a term that stands at a node is its profile
pub shown_is : (s : Setting) → IsReady s → (n : ℕ) (x : Term) → StandsAt s n x → shown s n (state s x) ≡ profile s x
shown_is s ready n x at = (fits s ready x n at.gives at.runs).shows

-- what is gained by a step that runs where a test passes
abbrev gained_by : Setting → SubjectId → Bool → Profile → ℕ → Option Gain
gained_by s to runs p work = held s to (if runs then Some p else None) work

-- the gain of a step to a profile
abbrev gain_of : SubjectId → Profile → ℕ → Gain
gain_of to p work = record { state = record { holder = to; view = view_of p }; cost = work }

-- it is gained where the step runs and the holder may hold the profile
gained-passes : (s : Setting) (to : SubjectId) (runs : Bool) (p : Profile) (work : ℕ) → runs ≡ true → may_hold s to p ≡ true
    → gained_by s to runs p work ≡ Some (gain_of to p work)
gained-passes s to runs p work passes may =
    ap (λ b. gained_by s to b p work) passes ∙ ap (λ b. if b then Some (gain_of to p work) else None) may

-- and there alone
record IsGainOf (s : Setting) (to : SubjectId) (runs : Bool) (p : Profile) (work : ℕ) (gain : Gain) : Type 0 where
  pub runs_so : runs ≡ true
  pub may : may_hold s to p ≡ true
  pub is : gain_of to p work ≡ gain

given : (b : Bool) (g gain : Gain) → (if b then Some g else None) ≡ Some gain → (b ≡ true) × (g ≡ gain)
given true g gain is = (refl, cc)
given false g gain is = cc

gained-tells : (s : Setting) (to : SubjectId) (runs : Bool) (p : Profile) (work : ℕ) (gain : Gain)
    → gained_by s to runs p work ≡ Some gain → IsGainOf s to runs p work gain
gained-tells s to true p work gain is =
    let told = given (may_hold s to p) (gain_of to p work) gain is in record { runs_so = refl; may = told.0; is = told.1 }
gained-tells s to false p work gain is = cc

-- the gains of the steps on a term that stands at a node, by its profile
enc_by : (s : Setting) → IsReady s → (n : ℕ) (a : AttrId) (x : Term) → StandsAt s n x
    → enc_gain s n a (state s x)
    ≡ gained_by s (holder s x) (has (profile s x).visible_plain a.0) (profile s (Enc a x)) (step_work s.basis (step.Enc a) (holder s x).0 n (view_of (profile s x)))
enc_by s ready n a x at =
    ap (λ p. held s (holder s x) (run_enc a.0 p) (step_work s.basis (step.Enc a) (holder s x).0 n (view_of (profile s x)))) (shown_is s ready n x at)

dec_by : (s : Setting) → IsReady s → (n : ℕ) (a : AttrId) (x : Term) → StandsAt s n x
    → dec_gain s n a (state s x)
    ≡ gained_by s (holder s x) (has (profile s x).visible_encrypted a.0) (profile s (Dec a x)) (step_work s.basis (step.Dec a) (holder s x).0 n (view_of (profile s x)))
dec_by s ready n a x at =
    ap (λ p. held s (holder s x) (run_dec a.0 p) (step_work s.basis (step.Dec a) (holder s x).0 n (view_of (profile s x)))) (shown_is s ready n x at)

-- what is gained where a test of the holders passes first
abbrev held_if : Bool → Setting → SubjectId → Option Profile → ℕ → Option Gain
held_if b s to p work = if b then held s to p work else None

held_if-runs : (b runs : Bool) (s : Setting) (to : SubjectId) (p : Profile) (work : ℕ)
    → held_if b s to (if runs then Some p else None) work ≡ gained_by s to (b && runs) p work
held_if-runs true runs s to p work = refl
held_if-runs false runs s to p work = refl

held_if-always : (b : Bool) (s : Setting) (to : SubjectId) (p : Profile) (work : ℕ) → held_if b s to (Some p) work ≡ gained_by s to b p work
held_if-always true s to p work = refl
held_if-always false s to p work = refl

send_by : (s : Setting) → IsReady s → (n : ℕ) (to : SubjectId) (x : Term) → StandsAt s n x
    → send_gain s n to (state s x)
    ≡ gained_by s to (may_get s (holder s x) to) (profile s x) (step_work s.basis (step.Send to) (holder s x).0 n (view_of (profile s x)))
send_by s ready n to x at =
    ap (λ p. held_if (may_get s (holder s x) to) s to (Some p) (step_work s.basis (step.Send to) (holder s x).0 n (view_of (profile s x)))) (shown_is s ready n x at)
    ∙ held_if-always (may_get s (holder s x) to) s to (profile s x) (step_work s.basis (step.Send to) (holder s x).0 n (view_of (profile s x)))

one_by : (s : Setting) → IsReady s → (m c : NodeId) (x : Term) → kind_at s m.0 ≡ kind.One c → StandsAt s c.0 x
    → one_gain s m (state s x)
    ≡ gained_by s (holder s x) (runs_one (schemes s) (op_at s m.0) (profile s x)) (profile s (Un m x)) (step_work s.basis (step.Un m) (holder s x).0 m.0 (view_of (profile s x)))
one_by s ready m c x is at =
    ap (λ k. held s (holder s x) (one_profile s (op_at s m.0) k (state s x)) (step_work s.basis (step.Un m) (holder s x).0 m.0 (view_of (profile s x)))) is
    ∙ ap (λ p. held s (holder s x) (run_one (schemes s) (op_at s m.0) p) (step_work s.basis (step.Un m) (holder s x).0 m.0 (view_of (profile s x)))) (shown_is s ready c.0 x at)

two_by : (s : Setting) → IsReady s → (m c d : NodeId) (x y : Term) → kind_at s m.0 ≡ kind.Two c d → StandsAt s c.0 x → StandsAt s d.0 y
    → two_gain s m (state s x) (state s y)
    ≡ gained_by s (holder s x) (((holder s x).0 == (holder s y).0) && runs_two (schemes s) (op_at s m.0) (profile s x) (profile s y))
    (profile s (Bin m x y)) (step_work s.basis (step.Bin m) (holder s x).0 m.0 (view_of (profile s x)))
two_by s ready m c d x y is left right =
    let work : ℕ = step_work s.basis (step.Bin m) (holder s x).0 m.0 (view_of (profile s x)) in
    let one_holder : Bool = (holder s x).0 == (holder s y).0 in
    ap (λ k. held_if one_holder s (holder s x) (two_profile s (op_at s m.0) k (state s x) (state s y)) work) is
    ∙ ap (λ p. held_if one_holder s (holder s x) (run_two (schemes s) (op_at s m.0) p (shown s d.0 (state s y))) work) (shown_is s ready c.0 x left)
    ∙ ap (λ q. held_if one_holder s (holder s x) (run_two (schemes s) (op_at s m.0) (profile s x) q) work) (shown_is s ready d.0 y right)
    ∙ held_if-runs one_holder (runs_two (schemes s) (op_at s m.0) (profile s x) (profile s y)) s (holder s x) (profile s (Bin m x y)) work

-- what a step on a table costs where it stands
work_at : (s : Setting) (step : Step) (n : ℕ) (x : Term) → node_of s x ≡ Some n
    → work_on s step x ≡ step_work s.basis step (holder s x).0 n (view_of (profile s x))
work_at s step n x gives = ap (λ place. option_map_or (λ i. step_work s.basis step (holder s x).0 i (view_of (profile s x))) place 0) gives

-- what the last step of a term that stands at a node gains
record IsLastStep (s : Setting) (n : ℕ) (x : Term) : Type 0 where
  operands : HasOperandsFor s n x
  gain : Gain
  gains : last_gain s n x ≡ Some gain

last_step : (s : Setting) → IsReady s → (n : ℕ) (x : Term) → StandsAt s n x → IsLastStep s n x
last_step s ready n (Leaf t) at = record {
  operands = at.gives;
  gain = record { state = state s (Leaf t); cost = 0 };
  gains = ap (λ b. option_map (λ (st : State). record { state = st; cost = 0 }) (if b then Some (state s (Leaf t)) else None)) at.held;
}
last_step s ready n (Enc a x) at =
    let below : StandsAt s n x = record { gives = at.gives; runs = (both _ _ at.runs).0; held = (both _ _ at.held).0 } in
    record {
      operands = below;
      gain = gain_of (holder s x) (profile s (Enc a x)) (step_work s.basis (step.Enc a) (holder s x).0 n (view_of (profile s x)));
      gains = enc_by s ready n a x below ∙ gained-passes s (holder s x) _ (profile s (Enc a x)) _ (both _ _ at.runs).1 (both _ _ at.held).1;
    }
last_step s ready n (Dec a x) at =
    let below : StandsAt s n x = record { gives = at.gives; runs = (both _ _ at.runs).0; held = (both _ _ at.held).0 } in
    record {
      operands = below;
      gain = gain_of (holder s x) (profile s (Dec a x)) (step_work s.basis (step.Dec a) (holder s x).0 n (view_of (profile s x)));
      gains = dec_by s ready n a x below ∙ gained-passes s (holder s x) _ (profile s (Dec a x)) _ (both _ _ at.runs).1 (both _ _ at.held).1;
    }
last_step s ready n (Send to x) at =
    let below : StandsAt s n x = record { gives = at.gives; runs = (both _ _ at.runs).0; held = (both _ _ at.held).0 } in
    record {
      operands = below;
      gain = gain_of to (profile s x) (step_work s.basis (step.Send to) (holder s x).0 n (view_of (profile s x)));
      gains = send_by s ready n to x below ∙ gained-passes s to _ (profile s x) _ (both _ _ at.runs).1 (both _ _ at.held).1;
    }
last_step s ready n (Un m x) at =
    let on = one_operand s m n x at.gives in
    let below : StandsAt s on.1.operand.0 x = record { gives = on.1.gives; runs = (both _ _ at.runs).0; held = (both _ _ at.held).0 } in
    record {
      operands = (on.0, record { operand = on.1.operand; kind = ap (kind_at s) (sym on.0) ∙ on.1.kind; stands = below });
      gain = gain_of (holder s x) (profile s (Un m x)) (step_work s.basis (step.Un m) (holder s x).0 m.0 (view_of (profile s x)));
      gains = one_by s ready m on.1.operand x on.1.kind below ∙ gained-passes s (holder s x) _ (profile s (Un m x)) _ (both _ _ at.runs).1 (both _ _ at.held).1;
    }
last_step s ready n (Bin m x y) at =
    let on = two_operands s m n x y at.gives in
    let runs_y = both _ _ (both _ _ at.runs).1 in
    let left : StandsAt s on.1.left_operand.0 x = record { gives = on.1.left_gives; runs = (both _ _ at.runs).0; held = (both _ _ at.held).0 } in
    let right : StandsAt s on.1.right_operand.0 y =
    record { gives = on.1.right_gives; runs = runs_y.0; held = (both _ _ (both _ _ at.held).1).0 } in
    record {
      operands = (
        on.0,
        record {
          left_operand = on.1.left_operand;
          right_operand = on.1.right_operand;
          kind = ap (kind_at s) (sym on.0) ∙ on.1.kind;
          left = left;
          right = right;
        },
      );
      gain = gain_of (holder s x) (profile s (Bin m x y)) (step_work s.basis (step.Bin m) (holder s x).0 m.0 (view_of (profile s x)));
      gains =
          two_by s ready m on.1.left_operand on.1.right_operand x y on.1.kind left right
          ∙ gained-passes s (holder s x) _ (profile s (Bin m x y)) _ runs_y.1 (both _ _ (both _ _ at.held).1).1;
    }

-- the leaf of a table is gained where its store may hold it
leaf_gained : (s : Setting) (n : ℕ) (t : TableId) (gain : Gain) → leaf_of s t ≡ Some n → last_gain s n (Leaf t) ≡ Some gain → IsGained s n (Leaf t) gain
leaf_gained s n t gain gives gains = by_test (is_held s (Leaf t)) refl gains
  where
    by_test : (b : Bool) → is_held s (Leaf t) ≡ b
        → option_map (λ (st : State). record { state = st; cost = 0 }) (if b then Some (state s (Leaf t)) else None) ≡ Some gain
        → IsGained s n (Leaf t) gain
    by_test true may is =
        let same : record { state = state s (Leaf t); cost = 0 } ≡ gain = cc in
        subst (IsGained s n (Leaf t)) same (record { stands = record { gives = gives; runs = refl; held = may }; arrives = refl; costs = refl })
    by_test false may is = cc

-- what a step gains from operands that stand where it takes them from is a term's
pub gains_terms : GainsAreTerms
gains_terms s ready n (Leaf t) gain gives gains = leaf_gained s n t gain gives gains
gains_terms s ready n (Enc a x) gain at gains =
    let told = gained-tells s (holder s x) _ (profile s (Enc a x)) _ gain (sym (enc_by s ready n a x at) ∙ gains) in
    subst (IsGained s n (Enc a x)) told.is (record {
      stands = record { gives = at.gives; runs = together _ _ at.runs told.runs_so; held = together _ _ at.held told.may };
      arrives = refl;
      costs = ap (λ work. cost s x + work) (work_at s (step.Enc a) n x at.gives);
    })
gains_terms s ready n (Dec a x) gain at gains =
    let told = gained-tells s (holder s x) _ (profile s (Dec a x)) _ gain (sym (dec_by s ready n a x at) ∙ gains) in
    subst (IsGained s n (Dec a x)) told.is (record {
      stands = record { gives = at.gives; runs = together _ _ at.runs told.runs_so; held = together _ _ at.held told.may };
      arrives = refl;
      costs = ap (λ work. cost s x + work) (work_at s (step.Dec a) n x at.gives);
    })
gains_terms s ready n (Send to x) gain at gains =
    let told = gained-tells s to _ (profile s x) _ gain (sym (send_by s ready n to x at) ∙ gains) in
    subst (IsGained s n (Send to x)) told.is (record {
      stands = record { gives = at.gives; runs = together _ _ at.runs told.runs_so; held = together _ _ at.held told.may };
      arrives = refl;
      costs = ap (λ work. cost s x + work) (work_at s (step.Send to) n x at.gives);
    })
gains_terms s ready n (Un m x) gain operands gains =
    let on = operands.1 in
    let is : kind_at s m.0 ≡ kind.One on.operand = ap (kind_at s) operands.0 ∙ on.kind in
    let told = gained-tells s (holder s x) _ (profile s (Un m x)) _ gain (sym (one_by s ready m on.operand x is on.stands) ∙ gains) in
    let gives : node_of s (Un m x) ≡ Some m.0 = one_gives m is on.stands.gives in
    subst (IsGained s n (Un m x)) told.is (record {
      stands = record {
        gives = gives ∙ ap (λ i. Some i) operands.0;
        runs = together _ _ on.stands.runs told.runs_so;
        held = together _ _ on.stands.held told.may;
      };
      arrives = refl;
      costs = refl;
    })
  where
    one_gives : (m : NodeId) {c : NodeId} → kind_at s m.0 ≡ kind.One c → node_of s x ≡ Some c.0 → node_of s (Un m x) ≡ Some m.0
    one_gives m {c} is at =
        ap (λ k. if stands_on k (node_of s x) then Some m.0 else None) is
        ∙ ap (λ place. if stands_on (kind.One c) place then Some m.0 else None) at
        ∙ ap (λ b. if b then Some m.0 else None) (eq-eqb c.0 c.0 refl)
gains_terms s ready n (Bin m x y) gain operands gains =
    let on = operands.1 in
    let is : kind_at s m.0 ≡ kind.Two on.left_operand on.right_operand = ap (kind_at s) operands.0 ∙ on.kind in
    let told =
    gained-tells s (holder s x) _ (profile s (Bin m x y)) _ gain
    (sym (two_by s ready m on.left_operand on.right_operand x y is on.left on.right) ∙ gains) in
    subst (IsGained s n (Bin m x y)) told.is (record {
      stands = record {
        gives = two_give m is on.left.gives on.right.gives ∙ ap (λ i. Some i) operands.0;
        runs = together _ _ on.left.runs (together _ _ on.right.runs told.runs_so);
        held = together _ _ on.left.held (together _ _ on.right.held told.may);
      };
      arrives = refl;
      costs = refl;
    })
  where
    two_give : (m : NodeId) {c d : NodeId} → kind_at s m.0 ≡ kind.Two c d → node_of s x ≡ Some c.0 → node_of s y ≡ Some d.0
        → node_of s (Bin m x y) ≡ Some m.0
    two_give m {c} {d} is left right =
        ap (λ k. if stands_on_both k (node_of s x) (node_of s y) then Some m.0 else None) is
        ∙ ap (λ place. if stands_on_both (kind.Two c d) place (node_of s y) then Some m.0 else None) left
        ∙ ap (λ place. if stands_on_both (kind.Two c d) (Some c.0) place then Some m.0 else None) right
        ∙ ap (λ b. if b then Some m.0 else None) (together _ _ (eq-eqb c.0 c.0 refl) (eq-eqb d.0 d.0 refl))

-- each term that stands at a node is gained by its last step
pub terms_gained : TermsAreGained
terms_gained s ready n x at =
    let last : IsLastStep s n x = last_step s ready n x at in
    record {
      operands = last.operands;
      gain = last.gain;
      gains = last.gains;
      gained = gains_terms s ready n x last.gain last.operands last.gains;
    }
