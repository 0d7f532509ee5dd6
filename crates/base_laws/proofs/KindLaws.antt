-- Laws of the first of each kind: no two are of one kind, and what they add to when one more item comes.
use Rattle.std.proofs.Common.{◌≡◌, suc, Bool, true, false, not, ◌||◌, List, [], ◌∷◌, ◌++◌, get_or, All, filter, if◌then◌else◌, refl, arith, append-nil}
use Rattle.std.specs.List.{AllPairs, list_any}
use Rattle.std.proofs.lemmas.Bool.{not-false}
use Rattle.std.proofs.lemmas.List.Elements.{All-nil, All-cons, All-head, All-tail, All-filter, filter-append}
use Rattle.std.proofs.lemmas.List.Kept.{AllPairs-cons, AllPairs-filter}
use Rattle.base_laws.specs.Lists.{firsts}

-- what holds of each pair holds of the first item with each later one, and of each pair behind it
pub pairs-head : {X : Type 0} (R : X → X → Type 0) (x : X) (xs : List X) → AllPairs R (x ∷ xs) → All (R x) xs
pairs-head R x xs pairs k d below = pairs 0 (suc k) d (omega arith) (omega arith)

pub pairs-tail : {X : Type 0} (R : X → X → Type 0) (x : X) (xs : List X) → AllPairs R (x ∷ xs) → AllPairs R xs
pairs-tail R x xs pairs i j d before below = pairs (suc i) (suc j) d (omega arith) (omega arith)

-- what is left out by a filter passes no test that only kept items pass
pub any-kept : {X : Type 0} (test keep : X → Bool) (xs : List X) → All (λ x. keep x ≡ false → test x ≡ false) xs
    → list_any test (filter keep xs) ≡ list_any test xs
any-kept test keep [] all = refl
any-kept test keep (x ∷ xs) all =
    let rest = any-kept test keep xs (All-tail (λ x. keep x ≡ false → test x ≡ false) x xs all) in
    let here = All-head (λ x. keep x ≡ false → test x ≡ false) x xs all in
    by_test (keep x) refl here rest
  where
    by_test : (b : Bool) → keep x ≡ b → (keep x ≡ false → test x ≡ false) → list_any test (filter keep xs) ≡ list_any test xs
        → list_any test (filter keep (x ∷ xs)) ≡ list_any test (x ∷ xs)
    by_test true is here rest = rw (is, rest) refl
    by_test false is here rest = rw (is, here is, rest) refl

-- what holds of each item holds of the first of each kind
pub All-firsts : {X : Type 0} (P : X → Type 0) (same : X → X → Bool) (xs : List X) → All P xs → All P (firsts same xs)
All-firsts P same [] all = All-nil P
All-firsts P same (x ∷ xs) all =
    All-cons P x (filter (λ y. not (same x y)) (firsts same xs)) (All-head P x xs all)
    (All-filter (λ y. not (same x y)) P (firsts same xs) (All-firsts P same xs (All-tail P x xs all)))

-- an item passes the test where another of its kind does
abbrev pub Follows : {X : Type 0} → (X → X → Bool) → (X → Bool) → X → X → Type 0
Follows same test x y = same x y ≡ true → test y ≡ true → test x ≡ true

-- a test that an item passes wherever a later one of its kind does finds one among the firsts just where it finds one
pub any-firsts : {X : Type 0} (same : X → X → Bool) (test : X → Bool) (xs : List X)
    → AllPairs (Follows same test) xs → list_any test (firsts same xs) ≡ list_any test xs
any-firsts same test [] pairs = refl
any-firsts {X} same test (x ∷ xs) pairs =
    let later = any-firsts same test xs (pairs-tail (Follows same test) x xs pairs) in
    let each = All-firsts (Follows same test x) same xs (pairs-head (Follows same test) x xs pairs) in
    by_test (test x) refl later each
  where
    fails : (y : X) → test x ≡ false → Follows same test x y → not (same x y) ≡ false → test y ≡ false
    fails y not_x pair kept = by (test y) refl
      where
        by : (b : Bool) → test y ≡ b → b ≡ false
        by false is = refl
        by true is = cc (pair (not-false (same x y) kept) is)

    by_test : (b : Bool) → test x ≡ b → list_any test (firsts same xs) ≡ list_any test xs
        → All (Follows same test x) (firsts same xs)
        → list_any test (firsts same (x ∷ xs)) ≡ list_any test (x ∷ xs)
    by_test true is later each = rw is refl
    by_test false is later each =
        rw (is, any-kept test (λ y. not (same x y)) (firsts same xs) (λ k d below. fails (get_or (firsts same xs) k d) is (each k d below))) later

-- the firsts with one more item behind: it is one of them where none of its kind stood before
pub firsts-push : {X : Type 0} (same : X → X → Bool) → ((x y z : X) → same x y ≡ true → same y z ≡ true → same x z ≡ true)
    → (xs : List X) (x : X)
    → firsts same (xs ++ x ∷ []) ≡ (if list_any (λ e. same e x) (firsts same xs) then firsts same xs else firsts same xs ++ x ∷ [])
firsts-push same trans [] x = refl
firsts-push {X} same trans (z ∷ xs) x =
    rw (firsts-push same trans xs x) (by_test (same z x) refl (list_any (λ e. same e x) (firsts same xs)) refl)
  where
    keep : X → Bool
    keep y = not (same z y)

    not_later : (y : X) → same z x ≡ false → keep y ≡ false → same y x ≡ false
    not_later y other left = by (same y x) refl
      where
        by : (b : Bool) → same y x ≡ b → b ≡ false
        by false is = refl
        by true is = cc (trans z y x (not-false (same z y) left) is)

    by_test : (own : Bool) → same z x ≡ own → (later : Bool) → list_any (λ e. same e x) (firsts same xs) ≡ later
        → z ∷ filter keep (if later then firsts same xs else firsts same xs ++ x ∷ [])
        ≡ (if own || list_any (λ e. same e x) (filter keep (firsts same xs)) then z ∷ filter keep (firsts same xs)
        else (z ∷ filter keep (firsts same xs)) ++ x ∷ [])
    by_test true is true any = refl
    by_test true is false any = rw (filter-append keep (firsts same xs) (x ∷ []), is, append-nil) refl
    by_test false is true any =
        rw (any-kept (λ e. same e x) keep (firsts same xs) (λ k d below. not_later (get_or (firsts same xs) k d) is), any) refl
    by_test false is false any =
        rw (
          any-kept (λ e. same e x) keep (firsts same xs) (λ k d below. not_later (get_or (firsts same xs) k d) is),
          any,
          filter-append keep (firsts same xs) (x ∷ []),
          is,
        ) refl

-- what a filter keeps passes its test
others : {X : Type 0} (same : X → X → Bool) (x : X) (ys : List X) → All (λ y. same x y ≡ false) (filter (λ y. not (same x y)) ys)
others same x [] = All-nil (λ y. same x y ≡ false)
others same x (y ∷ ys) = by (same x y) refl (others same x ys)
  where
    by : (b : Bool) → same x y ≡ b → All (λ y. same x y ≡ false) (filter (λ y. not (same x y)) ys)
        → All (λ y. same x y ≡ false) (filter (λ y. not (same x y)) (y ∷ ys))
    by true is rest = rw is rest
    by false is rest = rw is (All-cons (λ y. same x y ≡ false) y (filter (λ y. not (same x y)) ys) is rest)

-- no two of the firsts are of one kind
pub firsts-apart : {X : Type 0} (same : X → X → Bool) (xs : List X) → AllPairs (λ x y. same x y ≡ false) (firsts same xs)
firsts-apart same [] = λ i j d before below. absurd (omega arith)
firsts-apart same (x ∷ xs) =
    AllPairs-cons (λ x y. same x y ≡ false) x (filter (λ y. not (same x y)) (firsts same xs)) (others same x (firsts same xs))
    (AllPairs-filter (λ x y. same x y ≡ false) (λ y. not (same x y)) (firsts same xs) (firsts-apart same xs))
