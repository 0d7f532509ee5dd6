-- The steps of a term are told from the end back: the last step first, and then those of its operands.
use Rattle.std.proofs.Common.{◌≡◌, ℕ, ◌≤◌, List, [], ◌∷◌, ◌++◌, length, Some, refl, sym, ◌∙◌, ap, append_assoc, arith, reverse}
use Rattle.std.specs.Prelude.{slice_get}
use Rattle.std.proofs.lemmas.List.{append-nil, length-append, length-reverse, reverse-append}
use Rattle.std.proofs.lemmas.Option.{get_or_from_slice_get, slice_get_within}
use Rattle.std.proofs.Math.Path.{subst}
use Rattle.mq_base.specs.declared.plan.Step.{Step}
use Rattle.mq_base.specs.declared.plan.Step.TheVariants as step
use Rattle.extended_plan.specs.Term.{Term, Enc, Dec, Send, Un, spell}
use Rattle.assign_table.specs.declared.way.Settled.{Settled}
use Rattle.assign_table.specs.declared.way.Way.{Way}
use Rattle.assign_table.specs.declared.way.Way.TheVariants as way
use Rattle.assign_table.specs.inside.Ways.{AllLead, HasOperands, IsToldTo, Leads, operand_ways, settled_at, spell_all, step_of, to_dec, to_enc, to_leaf, to_one, to_send, to_two}

-- the steps of a term are those of its operands, to which the ways of its operands lead, and its last
record IsSpeltBy (arena : List Settled) (way : Way) (x : Term) : Type 0 where
  pub operands : List Term
  pub lead : AllLead arena (operand_ways arena way) operands
  pub spells : spell x ≡ spell_all operands ++ step_of way ∷ []
  pub has : HasOperands arena way

way_at : (arena : List Settled) (w : ℕ) (e : Settled) (x : Term) → slice_get arena w ≡ Some e → Leads arena e.way x → Leads arena (settled_at arena w).way x
way_at arena w e x at on =
    subst (λ (f : Settled). Leads arena f.way x) (sym (get_or_from_slice_get arena w e (settled_at [] 0) at)) on

-- the steps of a term of one operand
by_one : (arena : List Settled) (w : ℕ) (e : Settled) (y : Term) (last : Step) → slice_get arena w ≡ Some e → Leads arena e.way y
    → (x : Term) → spell x ≡ spell y ++ last ∷ [] → IsSpeltBy arena (way.One last w) x
by_one arena w e y last at on x is = record {
  operands = y ∷ [];
  lead = (way_at arena w e y at on, tt);
  spells = is ∙ ap (λ steps. steps ++ last ∷ []) (sym (append-nil (spell y)));
  has = slice_get_within arena w e at;
}

spelt_by : (arena : List Settled) (way : Way) (x : Term) → Leads arena way x → IsSpeltBy arena way x
spelt_by arena way x (to_leaf t) = record { operands = []; lead = tt; spells = refl; has = tt }
spelt_by arena way x (to_enc a w e y at on) = by_one arena w e y (step.Enc a) at on (Enc a y) refl
spelt_by arena way x (to_dec a w e y at on) = by_one arena w e y (step.Dec a) at on (Dec a y) refl
spelt_by arena way x (to_send r w e y at on) = by_one arena w e y (step.Send r) at on (Send r y) refl
spelt_by arena way x (to_one n w e y at on) = by_one arena w e y (step.Un n) at on (Un n y) refl
spelt_by arena way x (to_two n v w e f y z at at_too on on_too) = record {
  operands = y ∷ z ∷ [];
  lead = (way_at arena v e y at on, (way_at arena w f z at_too on_too, tt));
  spells = ap (λ steps. (spell y ++ steps) ++ step.Bin n ∷ []) (sym (append-nil (spell z)));
  has = (slice_get_within arena v e at, slice_get_within arena w f at_too);
}

-- where a way leads to a term, its operands are in the arena
pub leads-has : (arena : List Settled) (way : Way) (x : Term) → Leads arena way x → HasOperands arena way
leads-has arena way x on = (spelt_by arena way x on).has

-- more ways lead to more terms
all_more : (arena : List Settled) (ways more : List Way) (xs ys : List Term) → AllLead arena ways xs → AllLead arena more ys
    → AllLead arena (ways ++ more) (xs ++ ys)
all_more arena [] more [] ys lead lead_too = lead_too
all_more arena (way ∷ ways) more (x ∷ xs) ys lead lead_too = (lead.0, all_more arena ways more xs ys lead.1 lead_too)
all_more arena [] more (x ∷ xs) ys lead lead_too = absurd lead
all_more arena (way ∷ ways) more [] ys lead lead_too = absurd lead

-- the last of several ways leads to the last of the terms
record IsLastLead (arena : List Settled) (ways : List Way) (last : Way) (xs : List Term) : Type 0 where
  pub before : List Term
  pub term : Term
  pub are : xs ≡ before ++ term ∷ []
  pub lead : AllLead arena ways before
  pub leads : Leads arena last term

last_lead : (arena : List Settled) (ways : List Way) (last : Way) (xs : List Term) → AllLead arena (ways ++ last ∷ []) xs → IsLastLead arena ways last xs
last_lead arena [] last (x ∷ []) lead = record { before = []; term = x; are = refl; lead = tt; leads = lead.0 }
last_lead arena [] last (x ∷ y ∷ xs) lead = absurd lead.1
last_lead arena [] last [] lead = absurd lead
last_lead arena (way ∷ ways) last (x ∷ xs) lead =
    let rest = last_lead arena ways last xs lead.1 in
    record { before = x ∷ rest.before; term = rest.term; are = ap (λ ys. x ∷ ys) rest.are; lead = (lead.0, rest.lead); leads = rest.leads }
last_lead arena (way ∷ ways) last [] lead = absurd lead

spell_all-append : (xs ys : List Term) → spell_all (xs ++ ys) ≡ spell_all xs ++ spell_all ys
spell_all-append [] ys = refl
spell_all-append (x ∷ xs) ys =
    ap (λ steps. spell x ++ steps) (spell_all-append xs ys) ∙ sym (append_assoc (spell x) (spell_all xs) (spell_all ys))

-- where nothing is told yet, one way spells the whole
pub told-none : (arena : List Settled) (way : Way) (x : Term) → Leads arena way x → IsToldTo arena (way ∷ []) [] (spell x)
told-none arena way x on = record {
  terms = x ∷ [];
  lead = (on, tt);
  spells = append-nil (spell x ++ []) ∙ append-nil (spell x);
}

-- what the last of the ways leads to has operands in the arena
pub told-has : (arena : List Settled) (ways : List Way) (last : Way) (told whole : List Step) → IsToldTo arena (ways ++ last ∷ []) told whole
    → HasOperands arena last
told-has arena ways last told whole is =
    let end = last_lead arena ways last is.terms is.lead in leads-has arena last end.term end.leads

-- and where its last step is told, its operands are left
pub told-more : (arena : List Settled) (ways : List Way) (last : Way) (told whole : List Step) → IsToldTo arena (ways ++ last ∷ []) told whole
    → IsToldTo arena (ways ++ operand_ways arena last) (told ++ step_of last ∷ []) whole
told-more arena ways last told whole is =
    let end = last_lead arena ways last is.terms is.lead in
    let by = spelt_by arena last end.term end.leads in
    let here : List Step = step_of last ∷ [] in
    let all : spell_all is.terms ≡ spell_all end.before ++ (spell_all by.operands ++ here) =
    ap spell_all end.are ∙ spell_all-append end.before (end.term ∷ [])
    ∙ ap (λ steps. spell_all end.before ++ steps) (append-nil (spell end.term) ∙ by.spells) in
    record {
      terms = end.before ++ by.operands;
      lead = all_more arena ways (operand_ways arena last) end.before by.operands end.lead by.lead;
      spells =
          ap (λ steps. spell_all (end.before ++ by.operands) ++ steps) (reverse-append told here)
          ∙ ap (λ steps. steps ++ (here ++ reverse told)) (spell_all-append end.before by.operands)
          ∙ sym (append_assoc (spell_all end.before ++ spell_all by.operands) here (reverse told))
          ∙ ap (λ steps. steps ++ reverse told) (append_assoc (spell_all end.before) (spell_all by.operands) here ∙ sym all)
          ∙ is.spells;
    }

-- steps that are told are at most the whole's
pub told-length : (arena : List Settled) (ways : List Way) (told whole : List Step) → IsToldTo arena ways told whole → length told ≤ length whole
told-length arena ways told whole is =
    omega (arith, ap length is.spells, length-append (spell_all is.terms) (reverse told), length-reverse told)

-- where no way is left, the whole is told
told-all : (arena : List Settled) (told whole : List Step) → IsToldTo arena [] told whole → whole ≡ reverse told
told-all arena told whole is = by_terms is.terms is.lead is.spells
  where
    by_terms : (terms : List Term) → AllLead arena [] terms → spell_all terms ++ reverse told ≡ whole → whole ≡ reverse told
    by_terms [] lead spells = sym spells
    by_terms (x ∷ xs) lead spells = absurd lead

pub told-end : (arena : List Settled) (ways : List Way) (told whole : List Step) → length ways ≡ 0 → IsToldTo arena ways told whole
    → whole ≡ reverse told
told-end arena [] told whole none is = told-all arena told whole is
told-end arena (way ∷ ways) told whole none is = absurd (omega (arith, none))
