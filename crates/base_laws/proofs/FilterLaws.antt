-- Laws of what is filtered, mapped and gathered: the order in which it is done does not matter, and nothing matters but
-- what holds of each member.
use Rattle.std.proofs.Common.{◌≡◌, refl, ◌∙◌, ap, Bool, true, false, cond, not, ◌&&◌, ◌||◌, List, [], ◌∷◌, ◌++◌, map, filter, flat_map}
use Rattle.std.specs.List.{list_all, AllByRecursion}
use Rattle.std.proofs.lemmas.List.{map-append}
use Rattle.std.proofs.lemmas.List.Elements.{filter-append, filter_agree}
use Rattle.base_laws.specs.Lists.{firsts}

-- what holds of each member

pub each_always : {X : Type 0} (P : X → Type 0) → ((x : X) → P x) → (xs : List X) → AllByRecursion P xs
each_always P holds [] = tt
each_always P holds (x ∷ xs) = (holds x, each_always P holds xs)

pub each_leads : {X : Type 0} (P Q : X → Type 0) → ((x : X) → P x → Q x) → (xs : List X) → AllByRecursion P xs
    → AllByRecursion Q xs
each_leads P Q leads [] all = tt
each_leads P Q leads (x ∷ xs) all = (leads x all.0, each_leads P Q leads xs all.1)

pub each_both : {X : Type 0} (P Q : X → Type 0) (xs : List X) → AllByRecursion P xs → AllByRecursion Q xs
    → AllByRecursion (λ x. P x × Q x) xs
each_both P Q [] all more = tt
each_both P Q (x ∷ xs) all more = ((all.0, more.0), each_both P Q xs all.1 more.1)

pub each_append : {X : Type 0} (P : X → Type 0) (xs ys : List X) → AllByRecursion P xs → AllByRecursion P ys
    → AllByRecursion P (xs ++ ys)
each_append P [] ys all more = more
each_append P (x ∷ xs) ys all more = (all.0, each_append P xs ys all.1 more)

pub each_map : {X Y : Type 0} (P : Y → Type 0) (f : X → Y) (xs : List X) → AllByRecursion (λ x. P (f x)) xs
    → AllByRecursion P (map f xs)
each_map P f [] all = tt
each_map P f (x ∷ xs) all = (all.0, each_map P f xs all.1)

pub each_flat_map : {X Y : Type 0} (P : Y → Type 0) (f : X → List Y) (xs : List X)
    → AllByRecursion (λ x. AllByRecursion P (f x)) xs → AllByRecursion P (flat_map f xs)
each_flat_map P f [] all = tt
each_flat_map P f (x ∷ xs) all = each_append P (f x) (flat_map f xs) all.0 (each_flat_map P f xs all.1)

pub each_filter : {X : Type 0} (P : X → Type 0) (p : X → Bool) (xs : List X) → AllByRecursion P xs
    → AllByRecursion P (filter p xs)
each_filter P p [] all = tt
each_filter P p (x ∷ xs) all = by_test (p x) (each_filter P p xs all.1)
  where
    by_test : (b : Bool) → AllByRecursion P (filter p xs) → AllByRecursion P (cond b (x ∷ filter p xs) (filter p xs))
    by_test true rest = (all.0, rest)
    by_test false rest = rest

pub each_passes : {X : Type 0} (p : X → Bool) (xs : List X) → AllByRecursion (λ x. p x ≡ true) (filter p xs)
each_passes p [] = tt
each_passes p (x ∷ xs) = by_test (p x) refl (each_passes p xs)
  where
    by_test : (b : Bool) → p x ≡ b → AllByRecursion (λ y. p y ≡ true) (filter p xs)
        → AllByRecursion (λ y. p y ≡ true) (cond b (x ∷ filter p xs) (filter p xs))
    by_test true passes rest = (passes, rest)
    by_test false fails rest = rest

pub each_from_list_all : {X : Type 0} (p : X → Bool) (xs : List X) → list_all p xs ≡ true
    → AllByRecursion (λ x. p x ≡ true) xs
each_from_list_all p [] all = tt
each_from_list_all p (x ∷ xs) all =
    let both = both_true (p x) (list_all p xs) all in (both.0, each_from_list_all p xs both.1)
  where
    both_true : (b c : Bool) → (b && c) ≡ true → (b ≡ true) × (c ≡ true)
    both_true true c holds = (refl, holds)
    both_true false c holds = cc

pub list_all_from_each : {X : Type 0} (p : X → Bool) (xs : List X) → AllByRecursion (λ x. p x ≡ true) xs
    → list_all p xs ≡ true
list_all_from_each p [] all = refl
list_all_from_each p (x ∷ xs) all = rw (all.0, list_all_from_each p xs all.1) refl

pub each_unmap : {X Y : Type 0} (P : Y → Type 0) (f : X → Y) (xs : List X) → AllByRecursion P (map f xs)
    → AllByRecursion (λ x. P (f x)) xs
each_unmap P f [] all = tt
each_unmap P f (x ∷ xs) all = (all.0, each_unmap P f xs all.1)

pub each_first : {X : Type 0} (P : X → Type 0) (xs ys : List X) → AllByRecursion P (xs ++ ys) → AllByRecursion P xs
each_first P [] ys all = tt
each_first P (x ∷ xs) ys all = (all.0, each_first P xs ys all.1)

pub each_second : {X : Type 0} (P : X → Type 0) (xs ys : List X) → AllByRecursion P (xs ++ ys) → AllByRecursion P ys
each_second P [] ys all = all
each_second P (x ∷ xs) ys all = each_second P xs ys all.1

pub each_piece : {X Y : Type 0} (P : Y → Type 0) (f : X → List Y) (xs : List X) → AllByRecursion P (flat_map f xs)
    → AllByRecursion (λ x. AllByRecursion P (f x)) xs
each_piece P f [] all = tt
each_piece P f (x ∷ xs) all =
    (each_first P (f x) (flat_map f xs) all, each_piece P f xs (each_second P (f x) (flat_map f xs) all))

pub list_all_same : {X : Type 0} (p q : X → Bool) (xs : List X) → AllByRecursion (λ x. p x ≡ q x) xs
    → list_all p xs ≡ list_all q xs
list_all_same p q [] all = refl
list_all_same p q (x ∷ xs) all = rw (all.0, list_all_same p q xs all.1) refl

-- what is mapped or gathered by functions that agree

pub map_same : {X Y : Type 0} (f g : X → Y) (xs : List X) → AllByRecursion (λ x. f x ≡ g x) xs → map f xs ≡ map g xs
map_same f g [] all = refl
map_same f g (x ∷ xs) all = rw (all.0, map_same f g xs all.1) refl

pub map_agree : {X Y : Type 0} (f g : X → Y) → ((x : X) → f x ≡ g x) → (xs : List X) → map f xs ≡ map g xs
map_agree f g agree xs = map_same f g xs (each_always (λ x. f x ≡ g x) agree xs)

pub flat_map_same : {X Y : Type 0} (f g : X → List Y) (xs : List X) → AllByRecursion (λ x. f x ≡ g x) xs
    → flat_map f xs ≡ flat_map g xs
flat_map_same f g [] all = refl
flat_map_same f g (x ∷ xs) all = rw (all.0, flat_map_same f g xs all.1) refl

pub map_map : {X Y Z : Type 0} (f : Y → Z) (g : X → Y) (xs : List X) → map f (map g xs) ≡ map (λ x. f (g x)) xs
map_map f g [] = refl
map_map f g (x ∷ xs) = ap (λ ys. f (g x) ∷ ys) (map_map f g xs)

pub map_flat_map : {X Y Z : Type 0} (f : Y → Z) (g : X → List Y) (xs : List X)
    → map f (flat_map g xs) ≡ flat_map (λ x. map f (g x)) xs
map_flat_map f g [] = refl
map_flat_map f g (x ∷ xs) =
    map-append f (g x) (flat_map g xs) ∙ ap (λ ys. map f (g x) ++ ys) (map_flat_map f g xs)

-- what is filtered

pub filter_same : {X : Type 0} (p q : X → Bool) (xs : List X) → AllByRecursion (λ x. p x ≡ q x) xs
    → filter p xs ≡ filter q xs
filter_same p q [] all = refl
filter_same p q (x ∷ xs) all = rw (all.0, filter_same p q xs all.1) refl

pub filter_whole : {X : Type 0} (p : X → Bool) (xs : List X) → AllByRecursion (λ x. p x ≡ true) xs → filter p xs ≡ xs
filter_whole p [] all = refl
filter_whole p (x ∷ xs) all = rw (all.0, filter_whole p xs all.1) refl

pub filter_constant : {X : Type 0} (b : Bool) (xs : List X) → filter (λ x. b) xs ≡ cond b xs []
filter_constant true xs = filter_whole (λ x. true) xs (each_always (λ x. true ≡ true) (λ x. refl) xs)
filter_constant false [] = refl
filter_constant false (x ∷ xs) = filter_constant false xs

pub filter_and : {X : Type 0} (p q : X → Bool) (xs : List X) → filter p (filter q xs) ≡ filter (λ x. q x && p x) xs
filter_and p q [] = refl
filter_and p q (x ∷ xs) = by_test (q x) (filter_and p q xs)
  where
    by_test : (b : Bool) → filter p (filter q xs) ≡ filter (λ y. q y && p y) xs
        → filter p (cond b (x ∷ filter q xs) (filter q xs))
        ≡ cond (b && p x) (x ∷ filter (λ y. q y && p y) xs) (filter (λ y. q y && p y) xs)
    by_test true rest = ap (λ ys. cond (p x) (x ∷ ys) ys) rest
    by_test false rest = rest

pub filter_mapped : {X Y : Type 0} (p : Y → Bool) (f : X → Y) (xs : List X)
    → filter p (map f xs) ≡ map f (filter (λ x. p (f x)) xs)
filter_mapped p f [] = refl
filter_mapped p f (x ∷ xs) = by_test (p (f x)) (filter_mapped p f xs)
  where
    by_test : (b : Bool) → filter p (map f xs) ≡ map f (filter (λ y. p (f y)) xs)
        → cond b (f x ∷ filter p (map f xs)) (filter p (map f xs))
        ≡ map f (cond b (x ∷ filter (λ y. p (f y)) xs) (filter (λ y. p (f y)) xs))
    by_test true rest = ap (λ ys. f x ∷ ys) rest
    by_test false rest = rest

pub filter_flat_map : {X Y : Type 0} (p : Y → Bool) (f : X → List Y) (xs : List X)
    → filter p (flat_map f xs) ≡ flat_map (λ x. filter p (f x)) xs
filter_flat_map p f [] = refl
filter_flat_map p f (x ∷ xs) =
    filter-append p (f x) (flat_map f xs) ∙ ap (λ ys. filter p (f x) ++ ys) (filter_flat_map p f xs)

pub flat_map_filter : {X Y : Type 0} (f : X → List Y) (p : X → Bool) (xs : List X)
    → flat_map f (filter p xs) ≡ flat_map (λ x. cond (p x) (f x) []) xs
flat_map_filter f p [] = refl
flat_map_filter f p (x ∷ xs) = by_test (p x) (flat_map_filter f p xs)
  where
    by_test : (b : Bool) → flat_map f (filter p xs) ≡ flat_map (λ y. cond (p y) (f y) []) xs
        → flat_map f (cond b (x ∷ filter p xs) (filter p xs))
        ≡ cond b (f x) [] ++ flat_map (λ y. cond (p y) (f y) []) xs
    by_test true rest = ap (λ ys. f x ++ ys) rest
    by_test false rest = rest

-- a test of all that pass one of two tests
pub list_all_parted : {X : Type 0} (m p q r : X → Bool) → ((x : X) → p x ≡ (q x || r x)) → (xs : List X)
    → list_all m (filter p xs) ≡ (list_all m (filter q xs) && list_all m (filter r xs))
list_all_parted m p q r agree [] = refl
list_all_parted m p q r agree (x ∷ xs) = rw (agree x) (by_tests (q x) (r x) (list_all_parted m p q r agree xs))
  where
    both : (b c d : Bool) → (b && (c && d)) ≡ ((b && c) && (b && d))
    both true c d = refl
    both false c d = refl

    first : (b c d : Bool) → (b && (c && d)) ≡ ((b && c) && d)
    first true c d = refl
    first false c d = refl

    second : (b c d : Bool) → (b && (c && d)) ≡ (c && (b && d))
    second true c d = refl
    second false true d = refl
    second false false d = refl

    by_tests : (b c : Bool) → list_all m (filter p xs) ≡ (list_all m (filter q xs) && list_all m (filter r xs))
        → list_all m (cond (b || c) (x ∷ filter p xs) (filter p xs))
        ≡ (list_all m (cond b (x ∷ filter q xs) (filter q xs)) && list_all m (cond c (x ∷ filter r xs) (filter r xs)))
    by_tests true true rest =
        ap (λ l. m x && l) rest ∙ both (m x) (list_all m (filter q xs)) (list_all m (filter r xs))
    by_tests true false rest =
        ap (λ l. m x && l) rest ∙ first (m x) (list_all m (filter q xs)) (list_all m (filter r xs))
    by_tests false true rest =
        ap (λ l. m x && l) rest ∙ second (m x) (list_all m (filter q xs)) (list_all m (filter r xs))
    by_tests false false rest = rest

-- the first of each kind

pub firsts_agree : {X : Type 0} (p q : X → X → Bool) → ((x y : X) → p x y ≡ q x y) → (xs : List X) → firsts p xs ≡ firsts q xs
firsts_agree p q agree [] = refl
firsts_agree p q agree (x ∷ xs) =
    ap (λ ys. x ∷ filter (λ y. not (p x y)) ys) (firsts_agree p q agree xs)
    ∙ ap (λ ys. x ∷ ys)
    (filter_agree (λ y. not (p x y)) (λ y. not (q x y)) (λ y. ap not (agree x y)) (firsts q xs))

pub firsts_mapped : {X Y : Type 0} (p : Y → Y → Bool) (f : X → Y) (xs : List X)
    → firsts p (map f xs) ≡ map f (firsts (λ x y. p (f x) (f y)) xs)
firsts_mapped p f [] = refl
firsts_mapped p f (x ∷ xs) =
    ap (λ ys. f x ∷ filter (λ y. not (p (f x) y)) ys) (firsts_mapped p f xs)
    ∙ ap (λ ys. f x ∷ ys) (filter_mapped (λ y. not (p (f x) y)) f (firsts (λ y z. p (f y) (f z)) xs))
