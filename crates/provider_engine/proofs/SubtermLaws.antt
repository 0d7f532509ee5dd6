-- Each subterm of a term that stands at a node stands at a node too, with its steps among the term's.
use Rattle.std.proofs.Common.{◌≡◌, ℕ, ◌+◌, ◌≤◌, ◌^◌, [], ◌∷◌, ◌++◌, length, ap, refl, arith}
use Rattle.std.proofs.lemmas.List.{length-append}
use Rattle.std.specs.List.{AllByRecursion}
use Rattle.base_laws.proofs.BoolLaws.{both}
use Rattle.base_laws.proofs.FilterLaws.{each_append, each_leads}
use Rattle.extended_plan.proofs.PlaceLaws.{one_operand, two_operands}
use Rattle.extended_plan.specs.Setting.{Setting, root}
use Rattle.extended_plan.specs.Term.{Term, Leaf, Enc, Dec, Send, Un, Bin, spell}
use Rattle.extended_plan.specs.Validity.{StandsAt, authorised, runnable}
use Rattle.mq_base.specs.declared.plan.Step.{Step}
use Rattle.mq_base.specs.declared.plan.Step.TheVariants as step
use Rattle.provider_engine.proofs.AgreeLaws.{hidden_columns}
use Rattle.provider_engine.proofs.DecodeLaws.{runs_decode}
use Rattle.provider_engine.specs.Subterms.{Decodes, HiddenColumnsDoNotMatterToHolders, IsHeldAlike, Part, ValidPlansDecode, part, parts_from}

-- a subterm stands at a node, and its steps end no later than a place
record StandsTo (s : Setting) (most : ℕ) (p : Part) : Type 0 where
  node : ℕ
  stands : StandsAt s node p.term
  few : p.start + length (spell p.term) ≤ most

-- a step on one operand: the operand's parts, and the term
after_operand : (s : Setting) (most n start : ℕ) (last : Step) (x y : Term) → spell y ≡ spell x ++ last ∷ [] → StandsAt s n y
    → start + length (spell y) ≤ most
    → (start + length (spell x) ≤ most → AllByRecursion (StandsTo s most) (parts_from start x))
    → AllByRecursion (StandsTo s most) (parts_from start x ++ part start y ∷ [])
after_operand s most n start last x y spelt stands few below =
    each_append (StandsTo s most) (parts_from start x) (part start y ∷ [])
    (below (omega (arith, few, ap length spelt, length-append (spell x) (last ∷ []))))
    (record { node = n; stands = stands; few = few }, tt)

stand : (s : Setting) (most : ℕ) (x : Term) (n start : ℕ) → StandsAt s n x → start + length (spell x) ≤ most
    → AllByRecursion (StandsTo s most) (parts_from start x)
stand s most (Leaf t) n start stands few = (record { node = n; stands = stands; few = few }, tt)
stand s most (Enc a x) n start stands few =
    after_operand s most n start (step.Enc a) x (Enc a x) refl stands few
    (stand s most x n start (record { gives = stands.gives; runs = (both _ _ stands.runs).0; held = (both _ _ stands.held).0 }))
stand s most (Dec a x) n start stands few =
    after_operand s most n start (step.Dec a) x (Dec a x) refl stands few
    (stand s most x n start (record { gives = stands.gives; runs = (both _ _ stands.runs).0; held = (both _ _ stands.held).0 }))
stand s most (Send to x) n start stands few =
    after_operand s most n start (step.Send to) x (Send to x) refl stands few
    (stand s most x n start (record { gives = stands.gives; runs = (both _ _ stands.runs).0; held = (both _ _ stands.held).0 }))
stand s most (Un m x) n start stands few =
    let on = one_operand s m n x stands.gives in
    after_operand s most n start (step.Un m) x (Un m x) refl stands few
    (stand s most x on.1.operand.0 start
    (record { gives = on.1.gives; runs = (both _ _ stands.runs).0; held = (both _ _ stands.held).0 }))
stand s most (Bin m x y) n start stands few =
    let on = two_operands s m n x y stands.gives in
    let first = length-append (spell x) (spell y) in
    let second = length-append (spell x ++ spell y) (step.Bin m ∷ []) in
    each_append (StandsTo s most) (parts_from start x ++ parts_from (start + length (spell x)) y) (part start (Bin m x y) ∷ [])
    (each_append (StandsTo s most) (parts_from start x) (parts_from (start + length (spell x)) y)
    (stand s most x on.1.left_operand.0 start
    (record { gives = on.1.left_gives; runs = (both (runnable s x) _ stands.runs).0; held = (both (authorised s x) _ stands.held).0 })
    (omega (arith, few, first, second)))
    (stand s most y on.1.right_operand.0 (start + length (spell x))
    (record {
      gives = on.1.right_gives;
      runs = (both (runnable s y) _ (both (runnable s x) _ stands.runs).1).0;
      held = (both (authorised s y) _ (both (authorised s x) _ stands.held).1).0;
    })
    (omega (arith, few, first, second))))
    (record { node = n; stands = stands; few = few }, tt)

-- decoding the table of each subterm of a valid extended plan gives the rows of its node
pub valid_plans_decode : ValidPlansDecode
valid_plans_decode s keys contents run x valid few =
    each_leads (StandsTo s (2 ^ 32)) (Decodes s keys contents)
    (λ p at. record {
      node = at.node;
      gives = at.stands.gives;
      decodes = λ narrow. runs_decode s keys contents run at.node p.start p.term
          (record { gives = at.stands.gives; runs = at.stands.runs; few = at.few; narrow = narrow });
    })
    (parts_from 0 x) (stand s (2 ^ 32) x (root s) 0 valid.stands (omega (arith, few)))

-- and columns that its holder may see in no form do not matter to it
pub hidden_from_holders : HiddenColumnsDoNotMatterToHolders
hidden_from_holders s seals contents others form also x valid =
    each_leads (StandsTo s (0 + length (spell x))) (IsHeldAlike s seals contents others)
    (λ p at agree. hidden_columns s seals contents others form also at.node p.start p.term at.stands agree)
    (parts_from 0 x) (stand s (0 + length (spell x)) x (root s) 0 valid.stands (omega arith))
