-- Rows with equal cells: what one more cell adds to the rows of a cell, to pairs and to groups.
use Rattle.std.proofs.Common.{◌≡◌, ℕ, suc, ◌+◌, ◌<◌, Bool, true, false, not, cond, ◌||◌, ◌==◌, List, [], ◌∷◌, ◌++◌, length, get_or, take, drop, map, Some, if◌then◌else◌, refl, sym, ◌∙◌, ap, subst, arith, append_assoc, append-nil}
use Rattle.std.proofs.lemmas.Bool.Decides.{nat_tests}
use Rattle.std.proofs.lemmas.Cmp.{tied_itself}
use Rattle.std.proofs.lemmas.List.{length-take-le, map-append, take_more}
use Rattle.std.proofs.Math.Seq.{split_at}
use Rattle.std.specs.Borrow.{Bor}
use Rattle.std.specs.BTreeMap as tree
use Rattle.std.specs.BTreeMap.{BTreeMap}
use Rattle.std.specs.Cmp.{IsTotalOrder}
use Rattle.std.specs.List.{list_any}
use Rattle.std.specs.Ordering.{is_eq, ordering_reverse}
use Rattle.std.specs.declared.cmp.Ordering.{Ordering}
use Rattle.std.specs.declared.cmp.Ordering.TheVariants.{Equal}
use Rattle.base_laws.specs.Lists.{firsts}
use Rattle.base_laws.proofs.KindLaws.{any-firsts, firsts-push}
use Rattle.sealed_column.proofs.SmallLaws.{longer, tied}
use Rattle.sealed_column.specs.declared.rows.Pair.{Pair}
use Rattle.sealed_column.specs.Rows.{IsIndex, listed, paired, pairs_from, rows_at}
use Rattle.sealed_column.specs.inside.Grouping.{begins}

-- the rows of a cell, with one more cell
rows_at-push : {C : Type 0} (cmp : C → C → Ordering) (cell : C) (row : ℕ) (cells : List C) (c : C)
    → rows_at cmp cell row (cells ++ c ∷ []) ≡ rows_at cmp cell row cells ++ (if is_eq (cmp c cell) then (row + length cells) ∷ [] else [])
rows_at-push cmp cell row [] c =
    let here : row ≡ row + 0 = omega arith in
    append-nil _ ∙ ap (λ (n : ℕ). if is_eq (cmp c cell) then n ∷ [] else []) here
rows_at-push cmp cell row (d ∷ cells) c =
    let along : row + 1 + length cells ≡ row + suc (length cells) = omega arith in
    ap (λ (rows : List ℕ). (if is_eq (cmp d cell) then row ∷ [] else []) ++ rows)
    (rows_at-push cmp cell (row + 1) cells c
    ∙ ap (λ (n : ℕ). rows_at cmp cell (row + 1) cells ++ (if is_eq (cmp c cell) then n ∷ [] else [])) along)
    ∙ sym (append_assoc (if is_eq (cmp d cell) then row ∷ [] else []) (rows_at cmp cell (row + 1) cells) _)

-- an index of the cells so far and of one more
pub index_more : {C : Type 0} (cmp : C → C → Ordering) (found : BTreeMap (Bor C) (List ℕ)) (cells : List C) (i : ℕ) (cell : C)
    → i < length cells → cell ≡ get_or cells i cell → IsIndex cmp found (take i cells ++ cell ∷ [])
    → IsIndex cmp found (take (i + 1) cells)
index_more {C} cmp found cells i cell below read index =
    subst (λ (cs : List C). IsIndex cmp found cs) (sym (longer cells i cell below read)) index

module _ {C : Type 0} (cmp : C → C → Ordering) (total : IsTotalOrder cmp) where
  -- equal cells compare alike with any cell
  compare_alike : (p q c : C) → cmp p q ≡ Equal → cmp c p ≡ cmp c q
  compare_alike p q c same = total.antisymm c p ∙ ap ordering_reverse (total.congr p q c same) ∙ sym (total.antisymm c q)

  -- and have the same rows
  rows_at_same : (p q : C) (row : ℕ) (cells : List C) → cmp p q ≡ Equal → rows_at cmp p row cells ≡ rows_at cmp q row cells
  rows_at_same p q row [] same = refl
  rows_at_same p q row (c ∷ cells) same = λ i.
      (if is_eq (compare_alike p q c same i) then row ∷ [] else []) ++ rows_at_same p q (row + 1) cells same i

  -- an index with the row of one more cell
  pub index_put : (before after : BTreeMap (Bor C) (List ℕ)) (cells : List C) (cell : Bor C) (row : ℕ) (rows put : List ℕ)
      → length cells ≡ row → IsIndex cmp before cells → rows ≡ listed (tree.get (λ c d. cmp c.now d.now) before cell)
      → put ≡ rows ++ row ∷ []
      → ((q : Bor C) → tree.get (λ c d. cmp c.now d.now) after q
      ≡ cond (is_eq (cmp cell.now q.now)) (Some put) (tree.get (λ c d. cmp c.now d.now) before q))
      → IsIndex cmp after (cells ++ cell.now ∷ [])
  index_put before after cells cell row rows put long index here pushed updates =
      record { at = λ q. ap listed (updates q) ∙ by_cell q (is_eq (cmp cell.now q.now)) refl ∙ sym (rows_at-push cmp q.now 0 cells cell.now) }
    where
      by_cell : (q : Bor C) (same : Bool) → same ≡ is_eq (cmp cell.now q.now)
          → listed (cond (is_eq (cmp cell.now q.now)) (Some put) (tree.get (λ c d. cmp c.now d.now) before q))
          ≡ rows_at cmp q.now 0 cells ++ (if is_eq (cmp cell.now q.now) then (0 + length cells) ∷ [] else [])
      by_cell q true test =
          let place : row ≡ 0 + length cells = omega arith in
          let own : rows ≡ rows_at cmp q.now 0 cells =
          here ∙ index.at cell ∙ rows_at_same cell.now q.now 0 cells (tied (cmp cell.now q.now) (sym test)) in
          rw (← test) (pushed ∙ ap (λ (rs : List ℕ). rs ++ row ∷ []) own ∙ ap (λ (n : ℕ). rows_at cmp q.now 0 cells ++ n ∷ []) place)
      by_cell q false test = rw (← test) (index.at q ∙ sym (append-nil _))

  -- ---- groups

  -- the rows of a cell begin with its own row where no cell before it is equal
  begins_where_first : (cells : List C) (cell : C) (later : List C) (row n : ℕ) → n ≡ row + length cells
      → begins (rows_at cmp cell row (cells ++ cell ∷ later)) n ≡ not (list_any (λ e. is_eq (cmp e cell)) cells)
  begins_where_first [] cell later row n is =
      let own : row ≡ n = omega arith in
      rw (tied_itself total cell) (same_test row n own)
    where
      same_test : (a b : ℕ) → a ≡ b → (a == b) ≡ true
      same_test a b same = grind (arith, nat_tests)
  begins_where_first (c ∷ cells) cell later row n is =
      by_test (is_eq (cmp c cell)) refl (begins_where_first cells cell later (row + 1) n (omega arith))
    where
      other_test : (a b : ℕ) → a < b → (a == b) ≡ false
      other_test a b below = grind (arith, nat_tests)

      by_test : (same : Bool) → same ≡ is_eq (cmp c cell)
          → begins (rows_at cmp cell (row + 1) (cells ++ cell ∷ later)) n ≡ not (list_any (λ e. is_eq (cmp e cell)) cells)
          → begins ((if is_eq (cmp c cell) then row ∷ [] else []) ++ rows_at cmp cell (row + 1) (cells ++ cell ∷ later)) n
          ≡ not (is_eq (cmp c cell) || list_any (λ e. is_eq (cmp e cell)) cells)
      by_test true test rest = rw (← test) (other_test row n (omega arith))
      by_test false test rest = rw (← test) rest

  same_chain : (x y z : C) → is_eq (cmp x y) ≡ true → is_eq (cmp y z) ≡ true → is_eq (cmp x z) ≡ true
  same_chain x y z first second = ap is_eq (total.congr x y z (tied (cmp x y) first)) ∙ second

  abbrev same : C → C → Bool
  same c d = is_eq (cmp c d)

  -- groups with the rows of one more cell, where they begin with its own
  pub groups_more : (cells : List C) (i : ℕ) (cell : C) (rows : List ℕ) (before after : List (List ℕ)) → i < length cells
      → cell ≡ get_or cells i cell → rows ≡ rows_at cmp cell 0 cells
      → before ≡ map (λ c. rows_at cmp c 0 cells) (firsts (λ c d. is_eq (cmp c d)) (take i cells))
      → after ≡ (if begins rows i then before ++ rows ∷ [] else before)
      → after ≡ map (λ c. rows_at cmp c 0 cells) (firsts (λ c d. is_eq (cmp c d)) (take (i + 1) cells))
  groups_more cells i cell rows before after below read own so_far is =
      is ∙ by_test (list_any (λ e. is_eq (cmp e cell)) (take i cells)) refl
    where
      whole : cells ≡ take i cells ++ cell ∷ drop (suc i) cells
      whole = split_at cells i cell below ∙ ap (λ (c : C). take i cells ++ c ∷ drop (suc i) cells) (sym read)

      first_here : begins rows i ≡ not (list_any (λ e. is_eq (cmp e cell)) (take i cells))
      first_here =
          ap (λ (rs : List ℕ). begins rs i) (own ∙ ap (rows_at cmp cell 0) whole)
          ∙ begins_where_first (take i cells) cell (drop (suc i) cells) 0 i (omega (arith, length-take-le i cells (omega arith)))

      among : list_any (λ e. same e cell) (firsts same (take i cells)) ≡ list_any (λ e. same e cell) (take i cells)
      among = any-firsts same (λ e. same e cell) (take i cells) (λ j k d low high joined passes. same_chain (get_or (take i cells) j d) (get_or (take i cells) k d) cell joined passes)

      pushed : firsts same (take (i + 1) cells)
          ≡ (if list_any (λ e. same e cell) (take i cells) then firsts same (take i cells) else firsts same (take i cells) ++ cell ∷ [])
      pushed =
          ap (firsts same) (longer cells i cell below read) ∙ firsts-push same same_chain (take i cells) cell
          ∙ ap (λ (b : Bool). if b then firsts same (take i cells) else firsts same (take i cells) ++ cell ∷ []) among

      by_test : (met : Bool) → met ≡ list_any (λ e. same e cell) (take i cells)
          → (if begins rows i then before ++ rows ∷ [] else before) ≡ map (λ c. rows_at cmp c 0 cells) (firsts same (take (i + 1) cells))
      by_test true test =
          rw (first_here, pushed, ← test) so_far
      by_test false test =
          rw (first_here, pushed, ← test)
          (ap (λ (b : List (List ℕ)). b ++ rows ∷ []) so_far
          ∙ ap (λ (r : List ℕ). map (λ c. rows_at cmp c 0 cells) (firsts same (take i cells)) ++ r ∷ []) own
          ∙ sym (map-append (λ c. rows_at cmp c 0 cells) (firsts same (take i cells)) (cell ∷ [])))

-- ---- pairs

pairs-push : {C : Type 0} (cmp : C → C → Ordering) (row : ℕ) (cells : List C) (c : C) (right : List C)
    → pairs_from cmp row (cells ++ c ∷ []) right ≡ pairs_from cmp row cells right ++ paired (row + length cells) (rows_at cmp c 0 right)
pairs-push cmp row [] c right =
    let here : row ≡ row + 0 = omega arith in append-nil _ ∙ ap (λ (n : ℕ). paired n (rows_at cmp c 0 right)) here
pairs-push cmp row (d ∷ cells) c right =
    let along : row + 1 + length cells ≡ row + suc (length cells) = omega arith in
    ap (λ (pairs : List Pair). paired row (rows_at cmp d 0 right) ++ pairs)
    (pairs-push cmp (row + 1) cells c right
    ∙ ap (λ (n : ℕ). pairs_from cmp (row + 1) cells right ++ paired n (rows_at cmp c 0 right)) along)
    ∙ sym (append_assoc (paired row (rows_at cmp d 0 right)) (pairs_from cmp (row + 1) cells right) _)

-- the pairs with those of one more row of the left
pub pairs_more : {C : Type 0} (cmp : C → C → Ordering) (cells right : List C) (i : ℕ) (cell : C) (others : List ℕ) (before after : List Pair)
    → i < length cells → cell ≡ get_or cells i cell → others ≡ rows_at cmp cell 0 right
    → before ≡ pairs_from cmp 0 (take i cells) right → after ≡ before ++ paired i others
    → after ≡ pairs_from cmp 0 (take (i + 1) cells) right
pairs_more {C} cmp cells right i cell others before after below read own so_far is =
    let row : i ≡ 0 + length (take i cells) = omega (arith, length-take-le i cells (omega arith)) in
    is
    ∙ ap (λ (ps : List Pair). ps ++ paired i others) so_far
    ∙ ap (λ (rs : List ℕ). pairs_from cmp 0 (take i cells) right ++ paired i rs) own
    ∙ ap (λ (n : ℕ). pairs_from cmp 0 (take i cells) right ++ paired n (rows_at cmp cell 0 right)) row
    ∙ sym (pairs-push cmp 0 (take i cells) cell right)
    ∙ ap (λ (cs : List C). pairs_from cmp 0 cs right) (sym (longer cells i cell below read))

-- the pairs of a row with one more of the right
pub paired_more : (row : ℕ) (others : List ℕ) (i : ℕ) (start before after : List Pair) → i < length others
    → before ≡ start ++ paired row (take i others) → after ≡ before ++ record { left = row; right = get_or others i 0 } ∷ []
    → after ≡ start ++ paired row (take (i + 1) others)
paired_more row others i start before after below so_far is =
    let pair : ℕ → Pair = λ other. record { left = row; right = other } in
    is
    ∙ ap (λ (ps : List Pair). ps ++ record { left = row; right = get_or others i 0 } ∷ []) so_far
    ∙ append_assoc start (paired row (take i others)) _
    ∙ ap (λ (ps : List Pair). start ++ ps)
    (sym (map-append (λ other. record { left = row; right = other }) (take i others) (get_or others i 0 ∷ []))
    ∙ ap (paired row) (sym (take_more others i 0 below)))
