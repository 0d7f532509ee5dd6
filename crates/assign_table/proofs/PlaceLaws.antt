-- Places of the arena: how blocks lie, and what stands between two places.
use Rattle.std.proofs.Common.{◌≡◌, ℕ, zero, suc, ◌+◌, ◌-◌, ◌≤◌, ◌<◌, List, [], ◌∷◌, ◌++◌, length, get_or, map, take, drop, ◌⊎◌, inl, inr, sym, ◌∙◌, ap, arith}
use Rattle.std.specs.Prelude.{slice_range}
use Rattle.std.specs.List.{Contains}
use Rattle.std.proofs.lemmas.List.{drop-append-le, get_or-drop, get_or-map, get_or-take, length-drop, length-map, length-take-le, map-append, take-append-le, take_more}
use Rattle.std.proofs.lemmas.List.Elements.{Contains-get_or}
use Rattle.std.proofs.Math.Path.{subst}
use Rattle.assign_table.specs.declared.way.Settled.{Settled}
use Rattle.assign_table.specs.inside.Blocks.{AreBlocks, IsFrom, entries_from, entry_of, start_of}
use Rattle.assign_table.specs.inside.Ways.{settled_at}

last_or : (m k : ℕ) → m ≤ suc k → (m ≤ k) ⊎ (m ≡ k + 1)
last_or m k low = grind arith

-- blocks begin in ascending order
pub starts_rise : (arena : List Settled) (starts : List ℕ) (n : ℕ) → AreBlocks arena starts n → (m k : ℕ) → m ≤ k → k ≤ n
    → start_of starts m ≤ start_of starts k
starts_rise arena starts n blocks m zero low high =
    let none : m ≡ 0 = omega (arith, low) in subst (λ i. start_of starts i ≤ start_of starts 0) (sym none) (omega arith)
starts_rise arena starts n blocks m (suc k) low high =
    by_place (last_or m k low) (λ before. starts_rise arena starts n blocks m k before (omega (arith, high)))
  where
    between : (a b c : ℕ) → a ≤ b → b ≤ c → a ≤ c
    between a b c first second = omega arith

    add_one : (i : ℕ) → i + 1 ≡ suc i
    add_one i = omega arith

    by_place : (m ≤ k) ⊎ (m ≡ k + 1) → (m ≤ k → start_of starts m ≤ start_of starts k) → start_of starts m ≤ start_of starts (suc k)
    by_place (inl before) further =
        between (start_of starts m) (start_of starts k) (start_of starts (suc k)) (further before)
        (subst (λ i. start_of starts k ≤ start_of starts i) (add_one k) (blocks.rise k (omega (arith, high))))
    by_place (inr last) further = subst (λ i. start_of starts m ≤ start_of starts i) (last ∙ add_one k) (omega arith)

-- and within the arena
pub starts_low : (arena : List Settled) (starts : List ℕ) (n : ℕ) → AreBlocks arena starts n → (m : ℕ) → m ≤ n → start_of starts m ≤ length arena
starts_low arena starts n blocks m low =
    subst (λ k. start_of starts m ≤ k) blocks.end (starts_rise arena starts n blocks m n low (omega arith))

-- what stands between two places of a list
pub range-length : {X : Type 0} (xs : List X) (from to : ℕ) → to ≤ length xs → length (slice_range xs from to) ≡ to - from
range-length xs from to inside = length-take-le (to - from) (drop from xs) (omega (arith, inside, length-drop from xs))

pub range-at : {X : Type 0} (xs : List X) (from to i : ℕ) (d : X) → i < to - from → get_or (slice_range xs from to) i d ≡ get_or xs (from + i) d
range-at xs from to i d below = get_or-take (to - from) (drop from xs) i d below ∙ get_or-drop from xs i d

in_or : (from to long : ℕ) → to ≤ long → (from ≤ long) ⊎ (to ≤ from)
in_or from to long inside = grind arith

-- a range of a longer list
pub range-grown : {X : Type 0} (xs more : List X) (from to : ℕ) → to ≤ length xs → slice_range (xs ++ more) from to ≡ slice_range xs from to
range-grown xs more from to inside = by_place (in_or from to (length xs) inside)
  where
    by_place : (from ≤ length xs) ⊎ (to ≤ from) → slice_range (xs ++ more) from to ≡ slice_range xs from to
    by_place (inl before) =
        ap (take (to - from)) (drop-append-le from xs more before)
        ∙ take-append-le (to - from) (drop from xs) more (omega (arith, inside, length-drop from xs))
    by_place (inr none) =
        let zero_long : to - from ≡ 0 = omega (arith, none) in
        ap (λ k. take k (drop from (xs ++ more))) zero_long ∙ sym (ap (λ k. take k (drop from xs)) zero_long)

-- what stands at a place between two others is one of those that stand there
pub range-Contains : {Y : Type 0} (f : Settled → Y) (arena : List Settled) (from to w : ℕ) → to ≤ length arena → IsFrom from to w
    → Contains (map f (slice_range arena from to)) (f (settled_at arena w))
range-Contains f arena from to w inside at =
    let long : length (slice_range arena from to) ≡ to - from = range-length arena from to inside in
    let place : w - from < to - from = omega (arith, at.low, at.high) in
    subst (Contains (map f (slice_range arena from to)))
    (get_or-map f (slice_range arena from to) (w - from) (settled_at [] 0) (f (settled_at [] 0)) (omega (arith, place, long))
    ∙ ap f (range-at arena from to (w - from) (settled_at [] 0) place ∙ ap (λ i. get_or arena i (settled_at [] 0)) (omega (arith, at.low))))
    (Contains-get_or (map f (slice_range arena from to)) (w - from) (f (settled_at [] 0))
    (omega (arith, place, long, length-map (slice_range arena from to) f)))

-- and each of those stands at a place
pub record IsAtPlace {Y : Type 0} (f : Settled → Y) (arena : List Settled) (from to : ℕ) (y : Y) : Type 0 where
  pub place : ℕ
  pub inside : IsFrom from to place
  pub is : f (settled_at arena place) ≡ y

pub range-place : {Y : Type 0} (f : Settled → Y) (arena : List Settled) (from to : ℕ) (y : Y) → to ≤ length arena
    → Contains (map f (slice_range arena from to)) y → IsAtPlace f arena from to y
range-place f arena from to y inside there =
    let long : length (slice_range arena from to) ≡ to - from = range-length arena from to inside in
    let place : there.0 < to - from = omega (arith, there.1, long, length-map (slice_range arena from to) f) in
    record {
      place = from + there.0;
      inside = record { low = omega arith; high = omega (arith, place) };
      is =
          sym (get_or-map f (slice_range arena from to) there.0 (settled_at [] 0) y (omega (arith, place, long))
          ∙ ap f (range-at arena from to there.0 (settled_at [] 0) place)) ∙ there.2;
    }

-- the entries of no place, and of one more
pub entries-none : (arena : List Settled) (from : ℕ) → entries_from arena from from ≡ []
entries-none arena from =
    let none : from - from ≡ 0 = omega arith in ap (λ k. map entry_of (take k (drop from arena))) none

pub entries-more : (arena : List Settled) (from at : ℕ) → from ≤ at → at < length arena
    → entries_from arena from at ++ entry_of (settled_at arena at) ∷ [] ≡ entries_from arena from (at + 1)
entries-more arena from at low below =
    let long : at - from < length (drop from arena) = omega (arith, low, below, length-drop from arena) in
    let next : (at + 1) - from ≡ (at - from) + 1 = omega (arith, low) in
    let place : from + (at - from) ≡ at = omega (arith, low) in
    sym (ap (λ k. map entry_of (take k (drop from arena))) next
    ∙ ap (map entry_of) (take_more (drop from arena) (at - from) (settled_at [] 0) long)
    ∙ map-append entry_of (take (at - from) (drop from arena)) (get_or (drop from arena) (at - from) (settled_at [] 0) ∷ [])
    ∙ ap (λ (e : Settled). entries_from arena from at ++ entry_of e ∷ [])
    (get_or-drop from arena (at - from) (settled_at [] 0) ∙ ap (λ i. get_or arena i (settled_at [] 0)) place))
