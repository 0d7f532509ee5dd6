-- What each step makes of a view stands, at the step's own node, for what the step makes of the profile.
use Rattle.std.proofs.Common.{◌≡◌, ℕ, Bool, true, false, List, [], Option, Some, None, bit_and, refl, ap}
use Rattle.std.specs.Prelude.{if◌then◌else◌, option_map, IfSome}
use Rattle.base_laws.specs.Sets.{has, without}
use Rattle.mq_base.specs.declared.attr_set.AttrSet.{AttrSet}
use Rattle.mq_base.specs.declared.ids.AttrId.{AttrId}
use Rattle.mq_base.specs.declared.plan.PlanOp.{PlanOp}
use Rattle.mq_base.specs.declared.plan.PlanOp.TheVariants as op
use Rattle.mq_base.specs.declared.query.Agg.{Agg}
use Rattle.plan_algebra.specs.declared.facts.NodeFacts.{NodeFacts}
use Rattle.plan_algebra.specs.declared.kind.Kind.{Kind}
use Rattle.plan_algebra.specs.declared.kind.Kind.TheVariants as kind
use Rattle.plan_algebra.specs.Facts.{group_set, leaf_facts, one_facts, two_facts, IsLeafAt, IsNodeAt, IsTwoOn}
use Rattle.relation_profile.specs.declared.view.View.{View}
use Rattle.relation_profile.specs.Profile.{Profile}
use Rattle.mq_base.specs.declared.table.Scheme.{Scheme}
use Rattle.relation_profile.specs.Runnable.{run_dec, run_enc, run_one, run_two, runs_one, runs_two}
use Rattle.relation_profile.specs.Steps.{after_dec, after_enc, after_one, after_two, imply, leaf_profile}
use Rattle.relation_profile.specs.View.{profile_of, view_of, IsView}
use Rattle.base_laws.proofs.CutLaws.{cut-kept, within-both, within-common, within-cut, within-less, within-more, without-both, without-common, without-cut, without-less, without-more}

-- a view cut to a set
abbrev pub cut_to : View → ℕ → View
cut_to view kept = record view { enc = record { 0 = bit_and view.enc.0 kept } }

-- a projection's view is cut to the visible set of its result
pub project_view : (operation : PlanOp) (kept : AttrSet) (facts : NodeFacts) (view : View) (into : AttrSet) → operation ≡ op.Project kept
    → into ≡ (one_facts operation facts).visible → IsView facts view
    → cut_to view into.0 ≡ view_of (after_one operation (profile_of facts view))
project_view operation kept facts view into is into_is within =
    let cut : into.0 ≡ bit_and facts.visible.0 kept.0 = ap (λ s. s.0) (rw is at into_is) in
    rw (is, cut, cut-kept facts.visible.0 view.enc.0 kept.0 within.visible) refl

-- and so is a group's
pub group_view : (operation : PlanOp) (by : AttrSet) (aggs : List (AttrId × Agg)) (count : Bool) (facts : NodeFacts) (view : View)
    (into : AttrSet) (implied : View) → operation ≡ op.Group by aggs count → into ≡ (one_facts operation facts).visible
    → IsView facts view → implied ≡ view_of (imply by.0 (profile_of facts view))
    → cut_to implied into.0 ≡ view_of (after_one operation (profile_of facts view))
group_view operation by aggs count facts view into implied is into_is within implied_is =
    let cut : into.0 ≡ bit_and facts.visible.0 (group_set by aggs) = ap (λ s. s.0) (rw is at into_is) in
    rw (is, implied_is, cut, cut-kept facts.visible.0 view.enc.0 (group_set by aggs) within.visible) refl

-- a view in which these are encrypted and nothing is implicit
abbrev pub leaf_sealed : AttrSet → View
leaf_sealed enc = record { enc = enc; ip = record { 0 = 0 }; ie = record { 0 = 0 } }

-- the facts of a leaf are those of its visible set
leaf_facts_at : (facts : ℕ → NodeFacts) (n : ℕ) (operation : PlanOp) → IsLeafAt facts n operation → facts n ≡ leaf_facts (facts n).visible
leaf_facts_at facts n (op.Base t used) are = rw are refl
leaf_facts_at facts n _ are = absurd are

-- the view of a leaf stands for its profile, and is one of it
pub leaf_stands : (facts : ℕ → NodeFacts) (n : ℕ) (operation : PlanOp) (k : Kind) (rest : ℕ) (enc : AttrSet) → IsNodeAt facts n operation k
    → k ≡ kind.Leaf → enc.0 ≡ bit_and (facts n).visible.0 rest
    → profile_of (facts n) (leaf_sealed enc) ≡ leaf_profile rest (facts n).visible.0
leaf_stands facts n operation kind.Leaf rest enc at leaf is =
    let none : (facts n).eq ≡ [] = ap (λ (f : NodeFacts). f.eq) (leaf_facts_at facts n operation at) in
    rw (is, none, without-common (facts n).visible.0 rest) refl
leaf_stands facts n operation _ rest enc at leaf is = cc

pub leaf_within : (facts : NodeFacts) (rest : ℕ) (enc : AttrSet) → enc.0 ≡ bit_and facts.visible.0 rest → IsView facts (leaf_sealed enc)
leaf_within facts rest enc is = record { visible = rw is (within-common facts.visible.0 rest) }

-- the view after an operation on one operand stands for the profile after it, and is one of its node
pub one_stands : (operation : PlanOp) (facts : NodeFacts) (view : View)
    → profile_of (one_facts operation facts) (view_of (after_one operation (profile_of facts view))) ≡ after_one operation (profile_of facts view)
one_stands (op.Project kept) facts view = rw (without-cut facts.visible.0 view.enc.0 kept.0) refl
one_stands (op.Group by aggs count) facts view = rw (without-cut facts.visible.0 view.enc.0 (group_set by aggs)) refl
one_stands _ facts view = refl

pub one_within : (operation : PlanOp) (facts : NodeFacts) (view : View) → IsView facts view
    → IsView (one_facts operation facts) (view_of (after_one operation (profile_of facts view)))
one_within (op.Project kept) facts view within = record { visible = within-cut facts.visible.0 view.enc.0 kept.0 within.visible }
one_within (op.Group by aggs count) facts view within =
    record { visible = within-cut facts.visible.0 view.enc.0 (group_set by aggs) within.visible }
one_within _ facts view within = record { visible = within.visible }

-- and so is that after an operation on two
pub two_stands : (operation : PlanOp) (f g : NodeFacts) (v w : View) → IsTwoOn operation f g → IsView f v → IsView g w
    → profile_of (two_facts operation f g) (view_of (after_two operation (profile_of f v) (profile_of g w)))
    ≡ after_two operation (profile_of f v) (profile_of g w)
two_stands op.Product f g v w on left right =
    rw (without-both f.visible.0 g.visible.0 v.enc.0 w.enc.0 on.apart left.visible right.visible) refl
two_stands (op.Join a cmp b) f g v w on left right =
    rw (without-both f.visible.0 g.visible.0 v.enc.0 w.enc.0 on.0.apart left.visible right.visible) refl
two_stands _ f g v w on left right = absurd on

pub two_within : (operation : PlanOp) (f g : NodeFacts) (v w : View) → IsTwoOn operation f g → IsView f v → IsView g w
    → IsView (two_facts operation f g) (view_of (after_two operation (profile_of f v) (profile_of g w)))
two_within op.Product f g v w on left right =
    record { visible = within-both f.visible.0 g.visible.0 v.enc.0 w.enc.0 left.visible right.visible }
two_within (op.Join a cmp b) f g v w on left right =
    record { visible = within-both f.visible.0 g.visible.0 v.enc.0 w.enc.0 left.visible right.visible }
two_within _ f g v w on left right = absurd on

-- and so are those after an encryption and a decryption
pub enc_stands : (a : ℕ) (facts : NodeFacts) (view : View) → has (without facts.visible.0 view.enc.0) a ≡ true
    → profile_of facts (view_of (after_enc a (profile_of facts view))) ≡ after_enc a (profile_of facts view)
enc_stands a facts view plain = rw (plain, without-more facts.visible.0 view.enc.0 a) refl

pub enc_within : (a : ℕ) (facts : NodeFacts) (view : View) → IsView facts view → has (without facts.visible.0 view.enc.0) a ≡ true
    → IsView facts (view_of (after_enc a (profile_of facts view)))
enc_within a facts view within plain =
    rw plain (record { visible = within-more facts.visible.0 view.enc.0 a within.visible plain })

pub dec_stands : (a : ℕ) (facts : NodeFacts) (view : View) → IsView facts view → has view.enc.0 a ≡ true
    → profile_of facts (view_of (after_dec a (profile_of facts view))) ≡ after_dec a (profile_of facts view)
dec_stands a facts view within sealed = rw (sealed, without-less facts.visible.0 view.enc.0 a within.visible sealed) refl

pub dec_within : (a : ℕ) (facts : NodeFacts) (view : View) → IsView facts view → has view.enc.0 a ≡ true
    → IsView facts (view_of (after_dec a (profile_of facts view)))
dec_within a facts view within sealed =
    rw sealed (record { visible = within-less facts.visible.0 view.enc.0 a within.visible })

-- what is answered where a step runs
pub answer_stands : (runs : Bool) (p : Profile) (facts : NodeFacts) → (runs ≡ true → profile_of facts (view_of p) ≡ p)
    → option_map (profile_of facts) (option_map view_of (if runs then Some p else None)) ≡ (if runs then Some p else None)
answer_stands true p facts stands = ap (λ q. Some q) (stands refl)
answer_stands false p facts stands = refl

pub answer_within : (runs : Bool) (p : Profile) (facts : NodeFacts) → (runs ≡ true → IsView facts (view_of p))
    → IfSome (option_map view_of (if runs then Some p else None)) (IsView facts)
answer_within true p facts within = within refl
answer_within false p facts within = tt

-- so the view that a step answers stands for the profile after it, and is one of its node
pub one_answer_stands : (schemes : List Scheme) (operation : PlanOp) (operand node : NodeFacts) (view : View) (result : Option View)
    → node ≡ one_facts operation operand → result ≡ option_map view_of (run_one schemes operation (profile_of operand view))
    → option_map (profile_of node) result ≡ run_one schemes operation (profile_of operand view)
one_answer_stands schemes operation operand node view result are is =
    rw (are, is) (answer_stands (runs_one schemes operation (profile_of operand view)) (after_one operation (profile_of operand view))
    (one_facts operation operand) (λ runs. one_stands operation operand view))

pub one_answer_within : (schemes : List Scheme) (operation : PlanOp) (operand node : NodeFacts) (view : View) (result : Option View)
    → node ≡ one_facts operation operand → IsView operand view
    → result ≡ option_map view_of (run_one schemes operation (profile_of operand view)) → IfSome result (IsView node)
one_answer_within schemes operation operand node view result are within is =
    rw (are, is) (answer_within (runs_one schemes operation (profile_of operand view)) (after_one operation (profile_of operand view))
    (one_facts operation operand) (λ runs. one_within operation operand view within))

pub two_answer_stands : (schemes : List Scheme) (operation : PlanOp) (f g node : NodeFacts) (v w : View) (result : Option View)
    → node ≡ two_facts operation f g → IsTwoOn operation f g → IsView f v → IsView g w
    → result ≡ option_map view_of (run_two schemes operation (profile_of f v) (profile_of g w))
    → option_map (profile_of node) result ≡ run_two schemes operation (profile_of f v) (profile_of g w)
two_answer_stands schemes operation f g node v w result are on left right is =
    rw (are, is) (answer_stands (runs_two schemes operation (profile_of f v) (profile_of g w))
    (after_two operation (profile_of f v) (profile_of g w)) (two_facts operation f g)
    (λ runs. two_stands operation f g v w on left right))

pub two_answer_within : (schemes : List Scheme) (operation : PlanOp) (f g node : NodeFacts) (v w : View) (result : Option View)
    → node ≡ two_facts operation f g → IsTwoOn operation f g → IsView f v → IsView g w
    → result ≡ option_map view_of (run_two schemes operation (profile_of f v) (profile_of g w)) → IfSome result (IsView node)
two_answer_within schemes operation f g node v w result are on left right is =
    rw (are, is) (answer_within (runs_two schemes operation (profile_of f v) (profile_of g w))
    (after_two operation (profile_of f v) (profile_of g w)) (two_facts operation f g)
    (λ runs. two_within operation f g v w on left right))

pub enc_answer_stands : (a : ℕ) (facts : NodeFacts) (view : View) (result : Option View)
    → result ≡ option_map view_of (run_enc a (profile_of facts view)) → option_map (profile_of facts) result ≡ run_enc a (profile_of facts view)
enc_answer_stands a facts view result is =
    rw is (answer_stands (has (without facts.visible.0 view.enc.0) a) (after_enc a (profile_of facts view)) facts
    (λ plain. enc_stands a facts view plain))

pub enc_answer_within : (a : ℕ) (facts : NodeFacts) (view : View) (result : Option View) → IsView facts view
    → result ≡ option_map view_of (run_enc a (profile_of facts view)) → IfSome result (IsView facts)
enc_answer_within a facts view result within is =
    rw is (answer_within (has (without facts.visible.0 view.enc.0) a) (after_enc a (profile_of facts view)) facts
    (λ plain. enc_within a facts view within plain))

pub dec_answer_stands : (a : ℕ) (facts : NodeFacts) (view : View) (result : Option View) → IsView facts view
    → result ≡ option_map view_of (run_dec a (profile_of facts view)) → option_map (profile_of facts) result ≡ run_dec a (profile_of facts view)
dec_answer_stands a facts view result within is =
    rw is (answer_stands (has view.enc.0 a) (after_dec a (profile_of facts view)) facts
    (λ sealed. dec_stands a facts view within sealed))

pub dec_answer_within : (a : ℕ) (facts : NodeFacts) (view : View) (result : Option View) → IsView facts view
    → result ≡ option_map view_of (run_dec a (profile_of facts view)) → IfSome result (IsView facts)
dec_answer_within a facts view result within is =
    rw is (answer_within (has view.enc.0 a) (after_dec a (profile_of facts view)) facts
    (λ sealed. dec_within a facts view within sealed))
