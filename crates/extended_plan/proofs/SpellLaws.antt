-- A list of steps that a term spells reads back as that term, so that no two terms have one spelling.
use Rattle.std.proofs.Common.{◌≡◌, List, [], ◌∷◌, ◌++◌, Option, Some, None, refl, sym, ◌∙◌, ap, append_assoc}
use Rattle.mq_base.specs.declared.plan.Step.{Step}
use Rattle.mq_base.specs.declared.plan.Step.TheVariants as step
use Rattle.extended_plan.specs.Laws.{SpellingDetermines}
use Rattle.extended_plan.specs.StepList.{made}
use Rattle.extended_plan.specs.Term.{Term, Leaf, Enc, Dec, Send, Un, Bin, spell}

-- what is read after a step that made these terms
abbrev read_after : Option (List Term) → (List Term → Option (List Term)) → Option (List Term)
read_after None next = None
read_after (Some terms) next = next terms

-- the terms that are made by a list of steps on these
abbrev pub read_back : List Term → List Step → Option (List Term)
read_back terms [] = Some terms
read_back terms (step ∷ rest) = read_after (made step terms) (λ next. read_back next rest)

-- the steps that a term spells make that term
pub spelt_reads : (x : Term) (terms : List Term) (rest : List Step) → read_back terms (spell x ++ rest) ≡ read_back (x ∷ terms) rest
spelt_reads (Leaf t) terms rest = refl
spelt_reads (Enc a x) terms rest =
    ap (read_back terms) (append_assoc (spell x) (step.Enc a ∷ []) rest) ∙ spelt_reads x terms (step.Enc a ∷ rest)
spelt_reads (Dec a x) terms rest =
    ap (read_back terms) (append_assoc (spell x) (step.Dec a ∷ []) rest) ∙ spelt_reads x terms (step.Dec a ∷ rest)
spelt_reads (Send to x) terms rest =
    ap (read_back terms) (append_assoc (spell x) (step.Send to ∷ []) rest) ∙ spelt_reads x terms (step.Send to ∷ rest)
spelt_reads (Un n x) terms rest =
    ap (read_back terms) (append_assoc (spell x) (step.Un n ∷ []) rest) ∙ spelt_reads x terms (step.Un n ∷ rest)
spelt_reads (Bin n x y) terms rest =
    ap (read_back terms) (append_assoc (spell x ++ spell y) (step.Bin n ∷ []) rest ∙ append_assoc (spell x) (spell y) (step.Bin n ∷ rest))
    ∙ spelt_reads x terms (spell y ++ step.Bin n ∷ rest)
    ∙ spelt_reads y (x ∷ terms) (step.Bin n ∷ rest)

-- two terms with one spelling are one
pub spelling_determines : SpellingDetermines
spelling_determines x y same =
    one x y (sym (spelt_reads x [] []) ∙ ap (λ steps. read_back [] (steps ++ [])) same ∙ spelt_reads y [] [])
  where
    one : (x y : Term) → Some (x ∷ []) ≡ Some (y ∷ []) → x ≡ y
    one x y is = cc
