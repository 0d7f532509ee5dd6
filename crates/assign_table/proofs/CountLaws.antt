-- How many states are reached: no more than are settled in blocks that are done, and more where a table has too many.
use Rattle.std.proofs.Common.{◌≡◌, ℕ, zero, suc, ◌+◌, ◌-◌, ◌≤◌, ◌<◌, ◌==◌, ◌&&◌, Bool, true, false, List, [], ◌∷◌, ◌++◌, length, get_or, map, ◌⊎◌, inl, inr, refl, sym, ◌∙◌, ap, arith, All}
use Rattle.std.specs.Prelude.{slice_range}
use Rattle.std.specs.Bool.{Decides}
use Rattle.std.specs.Cmp.{IsEquivalence}
use Rattle.std.specs.List.{AllByRecursion, Contains, IsDistinct}
use Rattle.std.proofs.lemmas.Bool.{eq-eqb, eqb-true}
use Rattle.std.proofs.lemmas.List.{get_or-map, length-append, length-map}
use Rattle.std.proofs.lemmas.List.Elements.{All-contains, Contains-append_cases, Contains-append_left, Contains-append_right, Contains-get_or}
use Rattle.std.proofs.lemmas.Map.Keys.{IsDistinct-cons, IsDistinct-from_apart, IsDistinct-head, IsDistinct-tail, apart_from_distinct}
use Rattle.std.proofs.lemmas.Map.Made.{is_member-Decides, length-le_from_is_member}
use Rattle.std.proofs.Math.Path.{subst}
use Rattle.base_laws.proofs.BoolLaws.{both, together}
use Rattle.base_laws.proofs.FilterLaws.{each_append}
use Rattle.extended_plan.specs.declared.state.State.{State}
use Rattle.extended_plan.specs.Ready.{IsReady}
use Rattle.extended_plan.specs.Setting.{Setting}
use Rattle.extended_plan.specs.States.{HasTooMany, IsFirstTooMany, IsReached, IsSpotOf, Spot, spot_eq, state_eq}
use Rattle.extended_plan.proofs.EntryLaws.{same_state, state_eq-itself}
use Rattle.assign_table.specs.declared.way.Settled.{Settled}
use Rattle.assign_table.specs.inside.Blocks.{AreBlocks, AreDone, IsAttainedAt, IsPlaceOf, base_of, spot_of, start_of}
use Rattle.assign_table.proofs.BlockLaws.{bound}
use Rattle.assign_table.proofs.PlaceLaws.{range-Contains, range-at, range-length, range-place, starts_low}
use Rattle.assign_table.specs.inside.Ways.{settled_at}

-- a spot of this node
abbrev spot_with : ℕ → State → Spot
spot_with n st = record { node = n; state = st }

-- the test of spots tells whether they are one
same_spot : (p q : Spot) → spot_eq p q ≡ true → p ≡ q
same_spot p q same =
    let parts = both _ _ same in
    ap (λ i. spot_with i p.state) (eqb-true p.node q.node parts.0) ∙ ap (spot_with q.node) (same_state p.state q.state parts.1)

spot_decides : (p q : Spot) → Decides (spot_eq p q) (p ≡ q)
spot_decides p q = (same_spot p q, λ same. subst (λ r. spot_eq p r ≡ true) same (together _ _ (eq-eqb p.node p.node refl) (state_eq-itself p.state)))

-- a test that tells whether two are one is an equivalence
pub decides-equivalence : {X : Type 0} (test : X → X → Bool) → ((x y : X) → Decides (test x y) (x ≡ y)) → IsEquivalence test
decides-equivalence {X} test decides = record {
  refl = λ x. (decides x x).1 refl;
  symm = λ x y. alike (test x y) (test y x) (λ is. (decides y x).1 (sym ((decides x y).0 is))) (λ is. (decides x y).1 (sym ((decides y x).0 is)));
  congr = λ x y z same. ap (λ w. test w z) ((decides x y).0 same);
}
  where
    alike : (a b : Bool) → (a ≡ true → b ≡ true) → (b ≡ true → a ≡ true) → a ≡ b
    alike true b there back = sym (there refl)
    alike false true there back = back refl
    alike false false there back = refl

-- the spots of a block, and of the blocks of the nodes below n
abbrev spots_in : List Settled → List ℕ → ℕ → List Spot
spots_in arena starts n = map (spot_of n) (slice_range arena (start_of starts n) (start_of starts (n + 1)))

abbrev spots_below : List Settled → List ℕ → ℕ → List Spot
spots_below arena starts zero = []
spots_below arena starts (suc n) = spots_below arena starts n ++ spots_in arena starts n

spots_in-length : (arena : List Settled) (starts : List ℕ) (n m : ℕ) → AreBlocks arena starts n → m < n
    → length (spots_in arena starts m) ≡ start_of starts (m + 1) - start_of starts m
spots_in-length arena starts n m blocks below =
    length-map (slice_range arena (start_of starts m) (start_of starts (m + 1))) (spot_of m)
    ∙ range-length arena (start_of starts m) (start_of starts (m + 1)) (starts_low arena starts n blocks (m + 1) (omega (arith, below)))

spots-length : (arena : List Settled) (starts : List ℕ) (n : ℕ) → AreBlocks arena starts n → (m : ℕ) → m ≤ n
    → length (spots_below arena starts m) ≡ start_of starts m
spots-length arena starts n blocks zero low = sym blocks.begin
spots-length arena starts n blocks (suc m) low =
    let before : length (spots_below arena starts m) ≡ start_of starts m = spots-length arena starts n blocks m (omega (arith, low)) in
    let here = spots_in-length arena starts n m blocks (omega (arith, low)) in
    let rise : start_of starts m ≤ start_of starts (m + 1) = blocks.rise m (omega (arith, low)) in
    length-append (spots_below arena starts m) (spots_in arena starts m)
    ∙ sums _ _ (start_of starts m) (start_of starts (m + 1)) before here rise ∙ ap (start_of starts) (omega arith)
  where
    sums : (a b c d : ℕ) → a ≡ c → b ≡ d - c → c ≤ d → a + b ≡ d
    sums a b c d first second less = omega arith

last_or : (k m : ℕ) → k < suc m → (k < m) ⊎ (k ≡ m)
last_or k m below = grind arith

-- the spot of each settled state is among them
spot-listed : (arena : List Settled) (starts : List ℕ) (n : ℕ) → AreBlocks arena starts n → (m k w : ℕ) → m ≤ n → k < m → IsPlaceOf starts k w
    → Contains (spots_below arena starts m) (spot_of k (settled_at arena w))
spot-listed arena starts n blocks zero k w low below at = absurd (omega (arith, below))
spot-listed arena starts n blocks (suc m) k w low below at =
    by_place (last_or k m below) (λ before. spot-listed arena starts n blocks m k w (omega (arith, low)) before at)
  where
    by_place : (k < m) ⊎ (k ≡ m) → (k < m → Contains (spots_below arena starts m) (spot_of k (settled_at arena w)))
        → Contains (spots_below arena starts (suc m)) (spot_of k (settled_at arena w))
    by_place (inl before) further = Contains-append_left (spots_below arena starts m) (spots_in arena starts m) _ (further before)
    by_place (inr last) further =
        Contains-append_right (spots_below arena starts m) (spots_in arena starts m) _
        (subst (λ i. Contains (spots_in arena starts m) (spot_of i (settled_at arena w))) (sym last)
        (range-Contains (spot_of m) arena (start_of starts m) (start_of starts (m + 1)) w (starts_low arena starts n blocks (m + 1) (omega (arith, low)))
        (subst (λ i. IsPlaceOf starts i w) last at)))

-- where the blocks of the nodes below n are done, not too many states are reached up to any of them
pub few_reached : (s : Setting) → IsReady s → (arena : List Settled) (starts : List ℕ) (n m : ℕ) → AreDone s arena starts n → m < n
    → HasTooMany s m → ⊥
few_reached s ready arena starts n m done below many =
    let few : length many.spots ≤ length (spots_below arena starts n) =
    length-le_from_is_member (decides-equivalence spot_eq spot_decides) many.spots (spots_below arena starts n) many.differ
    (λ q there. (is_member-Decides spot_decides (spots_below arena starts n) q).1
    (listed q ((is_member-Decides spot_decides many.spots q).0 there))) in
    let long : length (spots_below arena starts n) ≡ length arena = spots-length arena starts n done.blocks n (omega arith) ∙ done.blocks.end in
    omega (arith, few, long, done.few, many.more)
  where
    listed : (q : Spot) → Contains many.spots q → Contains (spots_below arena starts n) q
    listed q there =
        let spot : IsSpotOf s m q = All-contains (IsSpotOf s m) many.spots q many.reached there in
        let early : q.node < n = omega (arith, spot.early, below) in
        let x = spot.reached.term in
        let settled = bound s ready arena starts n (λ k under. (done.block k under).closed) x q.node early spot.reached.reaches.stands in
        subst (Contains (spots_below arena starts n)) (ap (spot_with q.node) (settled.same ∙ spot.reached.reaches.arrives))
        (spot-listed arena starts n done.blocks n q.node settled.place (omega arith) early settled.inside)

-- what holds of each member holds of each in turn
each_member : {X : Type 0} (P : X → Type 0) (xs : List X) → ((x : X) → Contains xs x → P x) → AllByRecursion P xs
each_member P [] say = tt
each_member P (x ∷ xs) say =
    (say x (0, omega arith, refl), each_member P xs (λ y there. say y (Contains-append_right (x ∷ []) xs y there)))

-- lists without repetition that have nothing in common
distinct-append : {X : Type 0} (test : X → X → Bool) (xs ys : List X) → IsDistinct test xs → IsDistinct test ys
    → ((x y : X) → Contains xs x → Contains ys y → test x y ≡ false) → IsDistinct test (xs ++ ys)
distinct-append test [] ys first second apart = second
distinct-append test (x ∷ xs) ys first second apart =
    IsDistinct-cons test x (xs ++ ys)
    (each_append (λ y. test x y ≡ false) xs ys (IsDistinct-head test x xs first)
    (each_member (λ y. test x y ≡ false) ys (λ y there. apart x y (0, omega arith, refl) there)))
    (distinct-append test xs ys (IsDistinct-tail test x xs first) second
    (λ a b there there_too. apart a b (Contains-append_right (x ∷ []) xs a there) there_too))

-- what a mapped list has comes from what the list has
record ComesFrom {X Y : Type 0} (f : X → Y) (xs : List X) (y : Y) : Type 0 where
  pub item : X
  pub there : Contains xs item
  pub is : f item ≡ y

mapped-from : {X Y : Type 0} (f : X → Y) (xs : List X) (d : X) (y : Y) → Contains (map f xs) y → ComesFrom f xs y
mapped-from f xs d y there =
    let below : there.0 < length xs = omega (arith, there.1, length-map xs f) in
    record {
      item = get_or xs there.0 d;
      there = Contains-get_or xs there.0 d below;
      is = sym (get_or-map f xs there.0 d y below) ∙ there.2;
    }

-- a spot that is listed is that of a settled state
record IsSpotBelow (arena : List Settled) (starts : List ℕ) (m : ℕ) (q : Spot) : Type 0 where
  pub node : ℕ
  pub below : node < m
  pub place : ℕ
  pub inside : IsPlaceOf starts node place
  pub is : spot_of node (settled_at arena place) ≡ q

spot-found : (arena : List Settled) (starts : List ℕ) (n : ℕ) → AreBlocks arena starts n → (m : ℕ) → m ≤ n → (q : Spot)
    → Contains (spots_below arena starts m) q → IsSpotBelow arena starts m q
spot-found arena starts n blocks zero low q there = absurd (omega (arith, there.1))
spot-found arena starts n blocks (suc m) low q there =
    by_place (Contains-append_cases (spots_below arena starts m) (spots_in arena starts m) q there)
    (λ before. spot-found arena starts n blocks m (omega (arith, low)) q before)
  where
    by_place : Contains (spots_below arena starts m) q ⊎ Contains (spots_in arena starts m) q
        → (Contains (spots_below arena starts m) q → IsSpotBelow arena starts m q) → IsSpotBelow arena starts (suc m) q
    by_place (inl before) further =
        let found = further before in
        record { node = found.node; below = omega (arith, found.below); place = found.place; inside = found.inside; is = found.is }
    by_place (inr here) further =
        let at = range-place (spot_of m) arena (start_of starts m) (start_of starts (m + 1)) q (starts_low arena starts n blocks (m + 1) (omega (arith, low))) here in
        record { node = m; below = omega arith; place = at.place; inside = at.inside; is = at.is }

-- spots of two nodes differ
nodes_apart : (p q : Spot) → p.node < q.node → spot_eq p q ≡ false
nodes_apart p q less = by_test (p.node == q.node) refl
  where
    by_test : (b : Bool) → (p.node == q.node) ≡ b → (b && state_eq p.state q.state) ≡ false
    by_test true same = absurd (omega (arith, eqb-true p.node q.node same, less))
    by_test false other = refl

and_false : (a b : Bool) → b ≡ false → (a && b) ≡ false
and_false true b is = is
and_false false b is = refl

-- the spots of different states at one node differ
spots-apart : (n : ℕ) (states : List State) → IsDistinct state_eq states → IsDistinct spot_eq (map (spot_with n) states)
spots-apart n states differ =
    IsDistinct-from_apart spot_eq (map (spot_with n) states) (λ i j d before below.
    let high : j < length states = omega (arith, below, length-map states (spot_with n)) in
    rw (get_or-map (spot_with n) states i d.state d (omega (arith, before, high)), get_or-map (spot_with n) states j d.state d high)
    (and_false (n == n) _ (apart_from_distinct state_eq states i j d.state differ before high)))

-- the states of a block differ
block-differs : (s : Setting) (arena : List Settled) (starts : List ℕ) (n m : ℕ) → AreDone s arena starts n → m < n
    → IsDistinct spot_eq (spots_in arena starts m)
block-differs s arena starts n m done below =
    IsDistinct-from_apart spot_eq (spots_in arena starts m) (λ i j d before under.
    let from : ℕ = start_of starts m in
    let to : ℕ = start_of starts (m + 1) in
    let inside : to ≤ length arena = starts_low arena starts n done.blocks (m + 1) (omega (arith, below)) in
    let long : length (slice_range arena from to) ≡ to - from = range-length arena from to inside in
    let high : j < to - from = omega (arith, under, long, length-map (slice_range arena from to) (spot_of m)) in
    let lower : i < to - from = omega (arith, before, high) in
    rw (
      get_or-map (spot_of m) (slice_range arena from to) i (settled_at [] 0) d (omega (arith, lower, long)),
      get_or-map (spot_of m) (slice_range arena from to) j (settled_at [] 0) d (omega (arith, high, long)),
      range-at arena from to i (settled_at [] 0) lower,
      range-at arena from to j (settled_at [] 0) high,
    )
    (and_false (m == m) _ ((done.block m below).differ (from + i) (from + j)
    (record { low = omega arith; high = omega (arith, lower) }) (record { low = omega arith; high = omega (arith, high) }) (omega (arith, before)))))

spots-differ : (s : Setting) (arena : List Settled) (starts : List ℕ) (n : ℕ) → AreDone s arena starts n → (m : ℕ) → m ≤ n
    → IsDistinct spot_eq (spots_below arena starts m)
spots-differ s arena starts n done zero low = IsDistinct-from_apart spot_eq [] (λ i j d before below. absurd (omega (arith, below)))
spots-differ s arena starts n done (suc m) low =
    distinct-append spot_eq (spots_below arena starts m) (spots_in arena starts m) (spots-differ s arena starts n done m (omega (arith, low)))
    (block-differs s arena starts n m done (omega (arith, low))) (λ p q there there_too.
    let found = spot-found arena starts n done.blocks m (omega (arith, low)) p there in
    let at = range-place (spot_of m) arena (start_of starts m) (start_of starts (m + 1)) q (starts_low arena starts n done.blocks (m + 1) (omega (arith, low))) there_too in
    nodes_apart p q (omega (arith, found.below, ap (λ (r : Spot). r.node) found.is, ap (λ (r : Spot). r.node) at.is)))

-- where the states of the nodes before n are settled, and more than the rest up to 200,000 are reached at n, too many are reached there
-- first
pub too_many : (s : Setting) → IsReady s → (arena : List Settled) (starts : List ℕ) (n : ℕ) (states : List State) → AreDone s arena starts n
    → IsDistinct state_eq states → All (IsReached s n) states → 200000 < length arena + length states → IsFirstTooMany s n
too_many s ready arena starts n states done differ reached more = record {
  many = record {
    spots = spots_below arena starts n ++ map (spot_with n) states;
    more = omega (arith, more, length-append (spots_below arena starts n) (map (spot_with n) states), length-map states (spot_with n), long);
    differ =
        distinct-append spot_eq (spots_below arena starts n) (map (spot_with n) states) (spots-differ s arena starts n done n (omega arith))
        (spots-apart n states differ) (λ p q there there_too.
        let found = spot-found arena starts n done.blocks n (omega arith) p there in
        let from = mapped-from (spot_with n) states q.state q there_too in
        nodes_apart p q (omega (arith, found.below, ap (λ (r : Spot). r.node) found.is, ap (λ (r : Spot). r.node) from.is)));
    reached = λ k d below. each (Contains-append_cases (spots_below arena starts n) (map (spot_with n) states) _ (Contains-get_or _ k d below));
  };
  first = λ m before. few_reached s ready arena starts n m done before;
}
  where
    long : length (spots_below arena starts n) ≡ length arena
    long = spots-length arena starts n done.blocks n (omega arith) ∙ done.blocks.end

    each : {q : Spot} → Contains (spots_below arena starts n) q ⊎ Contains (map (spot_with n) states) q → IsSpotOf s n q
    each {q} (inl there) =
        let found = spot-found arena starts n done.blocks n (omega arith) q there in
        let from : IsAttainedAt s arena found.node (base_of s starts found.node) found.place =
        (done.block found.node found.below).attained found.place found.inside in
        subst (IsSpotOf s n) found.is (record {
          early = omega (arith, found.below);
          reached = record { term = from.term; reaches = record { stands = from.stands; arrives = from.arrives } };
        })
    each {q} (inr there) =
        let from = mapped-from (spot_with n) states q.state q there in
        subst (IsSpotOf s n) from.is (record { early = omega arith; reached = All-contains (IsReached s n) states from.item reached from.there })
