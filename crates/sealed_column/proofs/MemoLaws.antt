-- What a memo tells of the rows so far, and of one more.
use Rattle.std.proofs.Common.{◌≡◌, ℕ, Bool, true, false, cond, Option, None, Some, unwrap_or, List, [], ◌∷◌, ◌++◌, ◌<◌, ◌-◌, length, get_or, refl, sym, ◌∙◌, ap, arith}
use Rattle.std.proofs.lemmas.Option.{slice_get_read, slice_get_within}
use Rattle.std.proofs.lemmas.Slice.Eq.{bytes_eq-Decides}
use Rattle.std.specs.Cmp.{signed_Decides}
use Rattle.std.specs.HashMap.{HashMap, get}
use Rattle.std.specs.List.{slice_get}
use Rattle.std.specs.Option.{IsSomeAnd}
use Rattle.base_laws.proofs.PlaceLaws.{slice_get-append_left, slice_get-append_right}
use Rattle.mq_base.specs.declared.value.Value.TheVariants.{Int, Text}
use Rattle.sealed_column.specs.declared.memo.Bytes.{Bytes}
use Rattle.sealed_column.specs.declared.memo.Key.{Key}
use Rattle.sealed_column.specs.declared.memo.Key.TheVariants as key
use Rattle.sealed_column.specs.inside.Opening.{IsMemo, bytes_at, same_bytes, same_key, value_at}

-- what stands in a row stands there still after one more
still : {C : Type 0} (P : C → Type 0) (made : List C) (c : C) (row : ℕ) → IsSomeAnd (slice_get made row) P
    → IsSomeAnd (slice_get (made ++ c ∷ []) row) P
still {C} P made c row there = by_row (slice_get made row) refl there
  where
    by_row : (found : Option C) → found ≡ slice_get made row → IsSomeAnd found P → IsSomeAnd (slice_get (made ++ c ∷ []) row) P
    by_row None is here = absurd here
    by_row (Some d) is here =
        rw (slice_get-append_left made (c ∷ []) row (slice_get_within made row d (sym is))) (rw (← is) here)

-- and the one more stands in the next row
stands : {C : Type 0} (P : C → Type 0) (made : List C) (c : C) → P c → IsSomeAnd (slice_get (made ++ c ∷ []) (length made)) P
stands P made c here =
    let none : length made - length made ≡ 0 = omega arith in
    rw (slice_get-append_right made (c ∷ []) (length made) (omega arith), none) here

module _ {K A C S : Type 0} (same : K → K → Bool) (at : K → A) (belongs : A → C → Type 0) (made : List C) where
  -- the memo tells of the rows so far also where there is one more
  pub memo_longer : (memo : HashMap K ℕ S) (c : C) → IsMemo same at belongs made memo → IsMemo same at belongs (made ++ c ∷ []) memo
  memo_longer memo c is = record { told = λ k row told. still (belongs (at k)) made c row (is.told k row told) }

  -- what stands in the row that is told for a key belongs to it
  pub memo_found : (memo : HashMap K ℕ S) (k : K) (row : ℕ) (c : C) → IsMemo same at belongs made memo
      → row ≡ unwrap_or (get same memo k) (length made) → row < length made → c ≡ get_or made row c → belongs (at k) c
  memo_found memo k row c is told below there = by_told (get same memo k) refl told
    where
      by_told : (found : Option ℕ) → found ≡ get same memo k → row ≡ unwrap_or found (length made) → belongs (at k) c
      by_told None found read = absurd (omega (arith, read, below))
      by_told (Some r) found read =
          rw (slice_get_read made (length made) row c refl below there) at
          (rw (← read) at (is.told k r (sym found)))

  -- what belongs to a key is told for it, in the row that it was told before or else in the next one
  pub memo_more : ((x y : K) → same x y ≡ true → at x ≡ at y) → (before after : HashMap K ℕ S) (k : K) (row : ℕ) (c : C)
      → IsMemo same at belongs made before → row ≡ unwrap_or (get same before k) (length made)
      → ((q : K) → get same after q ≡ cond (same k q) (Some row) (get same before q)) → belongs (at k) c
      → IsMemo same at belongs (made ++ c ∷ []) after
  memo_more exact before after k row c is told updates here =
      record { told = λ q r found. by_key q r (same k q) refl (sym (updates q) ∙ found) }
    where
      by_row : (found : Option ℕ) → found ≡ get same before k → row ≡ unwrap_or found (length made)
          → IsSomeAnd (slice_get (made ++ c ∷ []) row) (belongs (at k))
      by_row None found read = rw read (stands (belongs (at k)) made c here)
      by_row (Some r) found read = rw read (still (belongs (at k)) made c r (is.told k r (sym found)))

      by_key : (q : K) (r : ℕ) (alike : Bool) → alike ≡ same k q → cond (same k q) (Some row) (get same before q) ≡ Some r
          → IsSomeAnd (slice_get (made ++ c ∷ []) r) (belongs (at q))
      by_key q r true test read =
          let row_is : Some row ≡ Some r = rw (← test) at read in
          let r_is : row ≡ r = cc in
          rw (← exact k q (sym test), ← r_is) (by_row (get same before k) refl told)
      by_key q r false test read = still (belongs (at q)) made c r (is.told q r (rw (← test) at read))

-- keys are equal only where what they stand for is
pub bytes_exact : (x y : Bytes) → same_bytes x y ≡ true → bytes_at x ≡ bytes_at y
bytes_exact x y alike = (bytes_eq-Decides x.bytes.now y.bytes.now).0 alike

pub key_exact : (x y : Key) → same_key x y ≡ true → value_at x ≡ value_at y
key_exact (key.Int x) (key.Int y) alike = ap Int ((signed_Decides x y).0 alike)
key_exact (key.Int x) (key.Text t) alike = cc
key_exact (key.Text s) (key.Int y) alike = cc
key_exact (key.Text s) (key.Text t) alike = ap Text (bytes_exact s t alike)
