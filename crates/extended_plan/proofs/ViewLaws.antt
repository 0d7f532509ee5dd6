-- The view of a term is one of the node that the term gives, and stands there for the term's profile.
use Rattle.std.proofs.Common.{◌≡◌, ℕ, ◌<◌, length, Bool, true, false, ◌&&◌, ◌||◌, not, Some, refl, sym, ap, bit_or}
use Rattle.std.specs.Option.{option_map_or}
use Rattle.std.proofs.lemmas.Bool.{ltb-true}
use Rattle.std.proofs.Math.Path.{subst, subst₂}
use Rattle.base_laws.specs.Sets.{has, without, IsWithin}
use Rattle.base_laws.proofs.BoolLaws.{both}
use Rattle.base_laws.proofs.SetLaws.{has-bit_or, has-without, same_members}
use Rattle.mq_base.specs.declared.plan.PlanOp.{PlanOp}
use Rattle.plan_algebra.specs.declared.facts.NodeFacts.{NodeFacts}
use Rattle.plan_algebra.specs.declared.kind.Kind.TheVariants as kind
use Rattle.plan_algebra.specs.Facts.{IsTwoOn, leaf_facts, leaf_set, one_facts, two_facts}
use Rattle.relation_profile.specs.Profile.{Profile}
use Rattle.relation_profile.specs.Steps.{after_dec, after_enc, after_one, after_two, leaf_profile}
use Rattle.relation_profile.specs.View.{IsView, profile_of, view_of}
use Rattle.base_laws.proofs.CutLaws.{within-common, without-common}
use Rattle.relation_profile.proofs.ViewLaws.{dec_stands, dec_within, enc_stands, enc_within, one_stands, one_within, two_stands, two_within}
use Rattle.extended_plan.specs.Laws.{TermsAreSeen}
use Rattle.extended_plan.specs.Ready.{IsReady}
use Rattle.extended_plan.specs.Setting.{Setting, known_at, op_at}
use Rattle.extended_plan.specs.Term.{Term, Leaf, Enc, Dec, Send, Un, Bin, holder, node_of}
use Rattle.extended_plan.specs.Validity.{profile, runnable}
use Rattle.extended_plan.proofs.PlaceLaws.{leaf_below, leaf_known, leaf_stored, node_below, one_known, one_operand, two_known, two_operands}

-- a profile that a node with these facts can have: its view is one of the node, and stands for it
pub record Fits (facts : NodeFacts) (p : Profile) : Type 0 where
  pub shows : profile_of facts (view_of p) ≡ p
  pub view : IsView facts (view_of p)

leaf_fits : (facts : NodeFacts) (rest used : ℕ) → facts ≡ leaf_facts (record { 0 = used }) → Fits facts (leaf_profile rest used)
leaf_fits facts rest used is = subst (λ f. Fits f (leaf_profile rest used)) (sym is) (record {
  shows = rw (without-common used rest) refl;
  view = record { visible = within-common used rest };
})

enc_fits : (a : ℕ) (facts : NodeFacts) (p : Profile) → Fits facts p → has p.visible_plain a ≡ true → Fits facts (after_enc a p)
enc_fits a facts p fits =
    subst (λ q. has q.visible_plain a ≡ true → Fits facts (after_enc a q)) fits.shows (λ plain. record {
      shows = enc_stands a facts (view_of p) plain;
      view = enc_within a facts (view_of p) fits.view plain;
    })

dec_fits : (a : ℕ) (facts : NodeFacts) (p : Profile) → Fits facts p → has p.visible_encrypted a ≡ true → Fits facts (after_dec a p)
dec_fits a facts p fits =
    subst (λ q. has q.visible_encrypted a ≡ true → Fits facts (after_dec a q)) fits.shows (λ sealed. record {
      shows = dec_stands a facts (view_of p) fits.view sealed;
      view = dec_within a facts (view_of p) fits.view sealed;
    })

one_fits : (operation : PlanOp) (facts : NodeFacts) (p : Profile) → Fits facts p → Fits (one_facts operation facts) (after_one operation p)
one_fits operation facts p fits =
    subst (λ q. Fits (one_facts operation facts) (after_one operation q)) fits.shows (record {
      shows = one_stands operation facts (view_of p);
      view = one_within operation facts (view_of p) fits.view;
    })

two_fits : (operation : PlanOp) (f g : NodeFacts) (p q : Profile) → IsTwoOn operation f g → Fits f p → Fits g q
    → Fits (two_facts operation f g) (after_two operation p q)
two_fits operation f g p q on left right =
    subst₂ (λ l r. Fits (two_facts operation f g) (after_two operation l r)) left.shows right.shows (record {
      shows = two_stands operation f g (view_of p) (view_of q) on left.view right.view;
      view = two_within operation f g (view_of p) (view_of q) on left.view right.view;
    })

-- the profile of a runnable term is one of the node that the term gives
pub fits : (s : Setting) → IsReady s → (x : Term) (n : ℕ) → node_of s x ≡ Some n → runnable s x ≡ true → Fits (known_at s n) (profile s x)
fits s ready (Leaf t) n gives runs =
    subst (λ place. Fits (known_at s n) (leaf_profile s.policy.rest.0 (option_map_or (λ i. leaf_set (op_at s i)) place 0))) (sym gives)
    (leaf_fits (known_at s n) s.policy.rest.0 (leaf_set (op_at s n)) (leaf_known s ready t n gives))
fits s ready (Enc a x) n gives runs =
    enc_fits a.0 (known_at s n) (profile s x) (fits s ready x n gives (both _ _ runs).0) (both _ _ runs).1
fits s ready (Dec a x) n gives runs =
    dec_fits a.0 (known_at s n) (profile s x) (fits s ready x n gives (both _ _ runs).0) (both _ _ runs).1
fits s ready (Send to x) n gives runs = fits s ready x n gives (both _ _ runs).0
fits s ready (Un m x) n gives runs =
    let on = one_operand s m n x gives in
    let known = one_known s ready m.0 on.1.operand on.1.kind in
    subst (λ i. Fits (known_at s i) (profile s (Un m x))) on.0
    (subst (λ f. Fits f (profile s (Un m x))) (sym known.are)
    (one_fits (op_at s m.0) (known_at s on.1.operand.0) (profile s x) (fits s ready x on.1.operand.0 on.1.gives (both _ _ runs).0)))
fits s ready (Bin m x y) n gives runs =
    let on = two_operands s m n x y gives in
    let known = two_known s ready m.0 on.1.left_operand on.1.right_operand on.1.kind in
    let left = fits s ready x on.1.left_operand.0 on.1.left_gives (both _ _ runs).0 in
    let right = fits s ready y on.1.right_operand.0 on.1.right_gives (both _ _ (both _ _ runs).1).0 in
    subst (λ i. Fits (known_at s i) (profile s (Bin m x y))) on.0
    (subst (λ f. Fits f (profile s (Bin m x y))) (sym known.are)
    (two_fits (op_at s m.0) (known_at s on.1.left_operand.0) (known_at s on.1.right_operand.0) (profile s x) (profile s y) known.stands left right))

-- the node that a term gives is one of the plan
pub node_is : (s : Setting) (x : Term) (n : ℕ) → node_of s x ≡ Some n → n < length s.basis.nodes
node_is s (Leaf t) n gives = leaf_below s t n gives
node_is s (Enc a x) n gives = node_is s x n gives
node_is s (Dec a x) n gives = node_is s x n gives
node_is s (Send to x) n gives = node_is s x n gives
node_is s (Un m x) n gives =
    let on = one_operand s m n x gives in
    subst (λ i. i < length s.basis.nodes) on.0 (node_below s m.0 (kind.One on.1.operand) on.1.kind (λ e. cc))
node_is s (Bin m x y) n gives =
    let on = two_operands s m n x y gives in
    subst (λ i. i < length s.basis.nodes) on.0 (node_below s m.0 (kind.Two on.1.left_operand on.1.right_operand) on.1.kind (λ e. cc))

-- the holder of a runnable term is a subject of the policy
pub holder_is : (s : Setting) → IsReady s → (x : Term) (n : ℕ) → node_of s x ≡ Some n → runnable s x ≡ true
    → (holder s x).0 < length s.policy.subjects
holder_is s ready (Leaf t) n gives runs = leaf_stored s ready t n gives
holder_is s ready (Enc a x) n gives runs = holder_is s ready x n gives (both _ _ runs).0
holder_is s ready (Dec a x) n gives runs = holder_is s ready x n gives (both _ _ runs).0
holder_is s ready (Send to x) n gives runs = ltb-true to.0 (length s.policy.subjects) (both _ _ (both _ _ runs).1).0
holder_is s ready (Un m x) n gives runs =
    let on = one_operand s m n x gives in holder_is s ready x on.1.operand.0 on.1.gives (both _ _ runs).0
holder_is s ready (Bin m x y) n gives runs =
    let on = two_operands s m n x y gives in holder_is s ready x on.1.left_operand.0 on.1.left_gives (both _ _ runs).0

-- what is visible is plain or encrypted
union-without : (v e : ℕ) → IsWithin e v → bit_or (without v e) e ≡ v
union-without v e within = same_members _ _ (λ i.
    rw (has-bit_or (without v e) e i, has-without v e i) (law (has v i) (has e i) (within.member i)))
  where
    law : (v e : Bool) → (e ≡ true → v ≡ true) → ((v && not e) || e) ≡ v
    law true true inside = refl
    law true false inside = refl
    law false true inside = let h : false ≡ true = inside refl in cc
    law false false inside = refl

pub seen : TermsAreSeen
seen s ready n x gives runs =
    let fit : Fits (known_at s n) (profile s x) = fits s ready x n gives runs in
    record {
      node = node_is s x n gives;
      known = holder_is s ready x n gives runs;
      shows = fit.shows;
      view = fit.view;
      visible =
          subst (λ (p : Profile). bit_or p.visible_plain p.visible_encrypted ≡ (known_at s n).visible.0) fit.shows
          (union-without (known_at s n).visible.0 (profile s x).visible_encrypted fit.view.visible);
      equivalent = sym (ap (λ (p : Profile). p.equivalent) fit.shows);
    }
