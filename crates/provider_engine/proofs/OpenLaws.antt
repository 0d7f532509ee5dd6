-- A cell opens to the value of which it is the seal.
use Rattle.std.proofs.Common.{◌≡◌, ℕ, zero, suc, ◌+◌, ◌-◌, ◌^◌, ◌<◌, ◌≤◌, ℤ, pos, negsuc, ◌+ℤ◌, Bool, true, false, ◌||◌, cond, List, [], ◌∷◌, length, map, flat_map, Some, refl, sym, ◌∙◌, ap, arith, ◌⊎◌, inl, inr}
use Rattle.std.proofs.lemmas.Int.{ints}
use Rattle.std.proofs.lemmas.List.Elements.{All-nil, All-cons}
use Rattle.std.proofs.lemmas.List.Folds.{list_any-append}
use Rattle.std.proofs.lemmas.Slice.Eq.{bytes_eq-Decides}
use Rattle.std.specs.Int.{w128}
use Rattle.std.specs.Int.RustNames.{FitsSigned}
use Rattle.std.specs.List.{All, AllByRecursion, find, list_any, range_with_len}
use Rattle.base_laws.proofs.FilterLaws.{each_append, each_flat_map, each_leads, each_map}
use Rattle.cipher_stream.specs.Stream.{row_of, step_of}
use Rattle.mq_base.proofs.BlockLaws.{shifted_is}
use Rattle.mq_base.specs.Bytes.{shifted}
use Rattle.mq_base.specs.Value.{type_of}
use Rattle.mq_base.specs.declared.table.Scheme.{Scheme}
use Rattle.mq_base.specs.declared.table.Scheme.TheVariants.{Rnd, Det, Ope}
use Rattle.mq_base.specs.declared.value.Value.{Value}
use Rattle.mq_base.specs.declared.value.Value.TheVariants.{Int, Text}
use Rattle.mq_base.specs.declared.value.ValueType.{ValueType}
use Rattle.mq_base.specs.declared.value.ValueType.TheVariants as type
use Rattle.provider_engine.specs.Opening.{bytes_to, int_from_least, is_seal, opened, sealed_values}
use Rattle.sealed_column.specs.Seal.{IsSealable, Opens, cell_length, seal}
use Rattle.sealed_column.specs.SealLaws.{seal_determines, seal_length}
use Rattle.provider_engine.proofs.OrLaws.{or_first, or_second}

-- ---- lists

-- the only member that can pass a test is found, where some member passes it
find_only : {X : Type 0} (p : X → Bool) (v : X) (xs : List X) → AllByRecursion (λ w. p w ≡ true → w ≡ v) xs
    → list_any p xs ≡ true → find p xs ≡ Some v
find_only p v [] only some = let h : false ≡ true = some in cc
find_only p v (x ∷ xs) only some = by_test (p x) refl some (find_only p v xs only.1)
  where
    by_test : (b : Bool) → p x ≡ b → (b || list_any p xs) ≡ true → (list_any p xs ≡ true → find p xs ≡ Some v)
        → cond b (Some x) (find p xs) ≡ Some v
    by_test true passes some rest = ap Some (only.0 passes)
    by_test false fails some rest = rest some

any_map : {X Y : Type 0} (p : Y → Bool) (f : X → Y) (xs : List X) → list_any p (map f xs) ≡ list_any (λ x. p (f x)) xs
any_map p f [] = refl
any_map p f (x ∷ xs) = ap (λ b. p (f x) || b) (any_map p f xs)

any_flat_map : {X Y : Type 0} (p : Y → Bool) (f : X → List Y) (xs : List X)
    → list_any p (flat_map f xs) ≡ list_any (λ x. list_any p (f x)) xs
any_flat_map p f [] = refl
any_flat_map p f (x ∷ xs) = list_any-append p (f x) (flat_map f xs) ∙ ap (λ b. list_any p (f x) || b) (any_flat_map p f xs)

any_range : (p : ℕ → Bool) (n a i : ℕ) → a ≤ i → i < a + n → p i ≡ true → list_any p (range_with_len a n) ≡ true
any_range p zero a i from to passes = absurd (omega (arith, from, to))
any_range p (suc n) a i from to passes =
    by_place (grind (arith, from)) (λ later. any_range p n (a + 1) i later (omega (arith, to)) passes)
  where
    by_place : (a ≡ i) ⊎ (a + 1 ≤ i) → (a + 1 ≤ i → list_any p (range_with_len (a + 1) n) ≡ true)
        → (p a || list_any p (range_with_len (a + 1) n)) ≡ true
    by_place (inl same) rest = or_first (p a) _ (ap p same ∙ passes)
    by_place (inr later) rest = or_second (p a) _ (rest later)

each_range : (P : ℕ → Type 0) (n a : ℕ) → ((i : ℕ) → a ≤ i → i < a + n → P i) → AllByRecursion P (range_with_len a n)
each_range P zero a holds = tt
each_range P (suc n) a holds =
    (holds a (omega arith) (omega arith), each_range P n (a + 1) (λ i from to. holds i (omega (arith, from)) (omega (arith, to))))

-- ---- the values that are sealed

-- a text of at most so many bytes
record IsText (most : ℕ) (t : List ℕ) : Type 0 where
  few : length t ≤ most
  bytes : All (λ byte. byte < 256) t

longer : (most byte : ℕ) → byte < 256 → (t : List ℕ) → IsText most t → IsText (suc most) (byte ∷ t)
longer most byte small t is = record {
  few = omega (arith, is.few);
  bytes = All-cons (λ b. b < 256) byte t small is.bytes;
}

empty_text : (most : ℕ) → IsText most []
empty_text most = record { few = omega arith; bytes = All-nil (λ byte. byte < 256) }

texts_are : (most : ℕ) → AllByRecursion (IsText most) (bytes_to most)
unfolding bytes_to
texts_are zero = (empty_text 0, tt)
texts_are (suc most) = (
  empty_text (suc most),
  each_flat_map (IsText (suc most)) (λ byte. map (λ rest. byte ∷ rest) (bytes_to most)) (range_with_len 0 256)
      (each_range _ 256 0 (λ byte from to. each_map (IsText (suc most)) (λ rest. byte ∷ rest) (bytes_to most)
      (each_leads (IsText most) (λ rest. IsText (suc most) (byte ∷ rest)) (longer most byte to) (bytes_to most) (texts_are most)))),
)

text_among : (p : List ℕ → Bool) (most : ℕ) (t : List ℕ) → IsText most t → p t ≡ true → list_any p (bytes_to most) ≡ true
unfolding bytes_to
text_among p zero [] is passes = or_first (p []) false passes
text_among p zero (byte ∷ t) is passes = absurd (omega (arith, is.few))
text_among p (suc most) [] is passes = or_first (p []) _ passes
text_among p (suc most) (byte ∷ t) is passes =
    or_second (p []) _
    (any_flat_map p (λ b. map (λ rest. b ∷ rest) (bytes_to most)) (range_with_len 0 256)
    ∙ any_range (λ b. list_any p (map (λ rest. b ∷ rest) (bytes_to most))) 256 0 byte (omega arith) (is.bytes 0 0 (omega arith))
    (any_map p (λ rest. byte ∷ rest) (bytes_to most) ∙ text_among (λ rest. p (byte ∷ rest)) most t
    (record { few = omega (arith, is.few); bytes = λ k d within. is.bytes (suc k) d (omega (arith, within)) }) passes))

int_fits : (z : ℤ) (n : ℕ) → n < 2 ^ 128 → z ≡ pos n +ℤ negsuc (2 ^ 127 - 1) → FitsSigned w128 z
int_fits (pos m) n small is = record { sfits = omega (arith, ints, small, is) }
int_fits (negsuc m) n small is = record { sfits = omega (arith, ints, small, is) }

int_is : (x : ℤ) → FitsSigned w128 x → int_from_least (shifted x) ≡ Int x
int_is x fits = ap Int (omega (arith, ints, shifted_is x fits))

shifted_small : (x : ℤ) → FitsSigned w128 x → shifted x < 2 ^ 128
shifted_small (pos n) fits = let small : n < 2 ^ 127 = fits.sfits in omega arith
shifted_small (negsuc n) fits = omega arith

text_seals : (t : List ℕ) → IsText 120 t → IsSealable (Text t)
text_seals t is = record { fits = record { short = is.few; representable = tt }; bytes = is.bytes }

int_seals : (n : ℕ) → n < 2 ^ 128 → IsSealable (int_from_least n)
int_seals n small = record { fits = record { short = tt; representable = int_fits _ n small refl }; bytes = tt }

-- each listed value is one that is sealed
listed_seal : AllByRecursion IsSealable sealed_values
unfolding sealed_values
listed_seal =
    each_append IsSealable (map int_from_least (range_with_len 0 (2 ^ 128))) (map Text (bytes_to 120))
    (each_map IsSealable int_from_least (range_with_len 0 (2 ^ 128))
    (each_range (λ n. IsSealable (int_from_least n)) (2 ^ 128) 0 (λ n from to. int_seals n to)))
    (each_map IsSealable Text (bytes_to 120) (each_leads (IsText 120) (λ t. IsSealable (Text t)) text_seals (bytes_to 120) (texts_are 120)))

-- and each one that is sealed is listed
sealable_listed : (p : Value → Bool) (v : Value) → IsSealable v → p v ≡ true → list_any p sealed_values ≡ true
unfolding sealed_values
sealable_listed p (Int x) is passes =
    list_any-append p (map int_from_least (range_with_len 0 (2 ^ 128))) (map Text (bytes_to 120))
    ∙ or_first _ (list_any p (map Text (bytes_to 120)))
    (any_map p int_from_least (range_with_len 0 (2 ^ 128))
    ∙ any_range (λ n. p (int_from_least n)) (2 ^ 128) 0 (shifted x) (omega arith) (shifted_small x is.fits.representable)
    (ap p (int_is x is.fits.representable) ∙ passes))
sealable_listed p (Text t) is passes =
    list_any-append p (map int_from_least (range_with_len 0 (2 ^ 128))) (map Text (bytes_to 120))
    ∙ or_second (list_any p (map int_from_least (range_with_len 0 (2 ^ 128)))) _
    (any_map p Text (bytes_to 120)
    ∙ text_among (λ t. p (Text t)) 120 t (record { few = is.fits.short; bytes = is.bytes }) passes)

-- ---- opening

type_by_length : (scheme : Scheme) (ty other : ValueType) → cell_length scheme ty ≡ cell_length scheme other → ty ≡ other
type_by_length scheme type.Int type.Int same = refl
type_by_length scheme type.Text type.Text same = refl
type_by_length Rnd type.Int type.Text same = absurd (omega (arith, same))
type_by_length Det type.Int type.Text same = absurd (omega (arith, same))
type_by_length Ope type.Int type.Text same = absurd (omega (arith, same))
type_by_length Rnd type.Text type.Int same = absurd (omega (arith, same))
type_by_length Det type.Text type.Int same = absurd (omega (arith, same))
type_by_length Ope type.Text type.Int same = absurd (omega (arith, same))

-- one seal is of one value
one_value : (scheme : Scheme) (key : List ℕ) (place row : ℕ) (v w : Value) → IsSealable v → IsSealable w
    → seal scheme key place row v ≡ seal scheme key place row w → v ≡ w
one_value scheme key place row v w is is_too same =
    seal_determines scheme key place row v w is is_too
    (type_by_length scheme (type_of v) (type_of w) (sym (seal_length scheme key place row v is.fits.short) ∙ ap length same
    ∙ seal_length scheme key place row w is_too.fits.short)) same

-- a cell opens to the value of which it is the seal
pub opened_is : (scheme : Scheme) (key cell : List ℕ) (v : Value) → Opens scheme key cell v → opened scheme key cell ≡ Some v
unfolding opened
opened_is scheme key cell v opens =
    find_only (is_seal scheme key cell) v sealed_values
    (each_leads IsSealable (λ w. is_seal scheme key cell w ≡ true → w ≡ v)
    (λ w is passes. one_value scheme key (step_of cell) (row_of cell) w v is opens.sealable
    (sym ((bytes_eq-Decides cell _).0 passes) ∙ opens.is_seal))
    sealed_values listed_seal)
    (sealable_listed (is_seal scheme key cell) v opens.sealable ((bytes_eq-Decides cell _).1 opens.is_seal))
