-- Words on lists that std has none for.
use Rattle.std.specs.Prelude.{Bool, not, List, [], ◌∷◌, filter}

-- the first of each kind, in the order in which the kinds first occur
abbrev pub firsts : {X : Type 0} → (X → X → Bool) → List X → List X
firsts same [] = []
firsts same (x ∷ rest) = x ∷ filter (λ y. not (same x y)) (firsts same rest)
