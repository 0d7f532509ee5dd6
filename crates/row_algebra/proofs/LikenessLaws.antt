-- Operations keep that rows belong together: first on lists, then on cells, then on rows.
use Rattle.std.proofs.Common.{◌≡◌, refl, subst, ap, ℕ, suc, ◌≤◌, Bool, true, false, cond, not, List, [], ◌∷◌, ◌++◌, length, map, filter, filter_map, flat_map, fold, Option, Some, None, arith, option_map}
use Rattle.std.specs.List.{cons_option, reduce}
use Rattle.std.specs.Option.{option_or}
use Rattle.base_laws.specs.Lists.{firsts}
use Rattle.base_laws.specs.Sets.{has}
use Rattle.base_laws.proofs.SetLaws.{list_all-members}
use Rattle.base_laws.proofs.ListLaws.{filter-length, filter_map-length}
use Rattle.mq_base.specs.declared.ids.AttrId.{AttrId}
use Rattle.mq_base.specs.declared.query.Agg.{Agg}
use Rattle.mq_base.specs.declared.query.CmpOp.{CmpOp}
use Rattle.mq_base.specs.declared.query.CmpOp.TheVariants as cmp
use Rattle.mq_base.specs.declared.query.Item.{Item}
use Rattle.mq_base.specs.declared.query.Item.TheVariants as item
use Rattle.row_algebra.specs.Rows.{RowOf, cut, mapped, merge, product}
use Rattle.row_algebra.specs.Tests.{Tests, passes, both_pass, passes_constant, passes_pair, passes_count}
use Rattle.row_algebra.specs.Groups.{same_cell, same_cells, function_of, aggregate, group_row}
use Rattle.row_algebra.specs.Select.{item_of, selected}
use Rattle.row_algebra.specs.Likeness.{BothOr, Beside, IsLike, AreLike, LeadsAt, RespectsPair, RespectsFold, RespectsGroup, ConstantKeeps, PairKeeps, CountKeeps, CutKeeps, ProductKeeps, JoinKeeps, GroupKeeps, SelectKeeps, LikeIsMapped, LikeIsSame}
use Rattle.row_algebra.proofs.RowLaws.{same_row}

-- lists beside each other

pub beside_length : {X Y : Type 0} (R : X → Y → Type 0) (xs : List X) (ys : List Y) → Beside R xs ys → length xs ≡ length ys
beside_length R [] [] all = refl
beside_length R [] (y ∷ ys) all = absurd all
beside_length R (x ∷ xs) [] all = absurd all
beside_length R (x ∷ xs) (y ∷ ys) all = ap suc (beside_length R xs ys all.1)

pub beside_append : {X Y : Type 0} (R : X → Y → Type 0) (xs : List X) (ys : List Y) (us : List X) (vs : List Y)
    → Beside R xs ys → Beside R us vs → Beside R (xs ++ us) (ys ++ vs)
beside_append R [] [] us vs all more = more
beside_append R [] (y ∷ ys) us vs all more = absurd all
beside_append R (x ∷ xs) [] us vs all more = absurd all
beside_append R (x ∷ xs) (y ∷ ys) us vs all more = (all.0, beside_append R xs ys us vs all.1 more)

pub beside_map : {X Y U V : Type 0} (R : X → Y → Type 0) (S : U → V → Type 0) (f : X → U) (g : Y → V)
    → ((x : X) (y : Y) → R x y → S (f x) (g y)) → (xs : List X) (ys : List Y) → Beside R xs ys
    → Beside S (map f xs) (map g ys)
beside_map R S f g keeps [] [] all = tt
beside_map R S f g keeps [] (y ∷ ys) all = absurd all
beside_map R S f g keeps (x ∷ xs) [] all = absurd all
beside_map R S f g keeps (x ∷ xs) (y ∷ ys) all = (keeps x y all.0, beside_map R S f g keeps xs ys all.1)

pub beside_flat_map : {X Y U V : Type 0} (R : X → Y → Type 0) (S : U → V → Type 0) (f : X → List U) (g : Y → List V)
    → ((x : X) (y : Y) → R x y → Beside S (f x) (g y)) → (xs : List X) (ys : List Y) → Beside R xs ys
    → Beside S (flat_map f xs) (flat_map g ys)
beside_flat_map R S f g keeps [] [] all = tt
beside_flat_map R S f g keeps [] (y ∷ ys) all = absurd all
beside_flat_map R S f g keeps (x ∷ xs) [] all = absurd all
beside_flat_map R S f g keeps (x ∷ xs) (y ∷ ys) all =
    beside_append S (f x) (g y) (flat_map f xs) (flat_map g ys) (keeps x y all.0)
    (beside_flat_map R S f g keeps xs ys all.1)

pub beside_filter : {X Y : Type 0} (R : X → Y → Type 0) (p : X → Bool) (q : Y → Bool)
    → ((x : X) (y : Y) → R x y → p x ≡ q y) → (xs : List X) (ys : List Y) → Beside R xs ys
    → Beside R (filter p xs) (filter q ys)
beside_filter R p q agree [] [] all = tt
beside_filter R p q agree [] (y ∷ ys) all = absurd all
beside_filter R p q agree (x ∷ xs) [] all = absurd all
beside_filter R p q agree (x ∷ xs) (y ∷ ys) all =
    by_test (p x) (q y) (agree x y all.0) (beside_filter R p q agree xs ys all.1)
  where
    by_test : (b c : Bool) → b ≡ c → Beside R (filter p xs) (filter q ys)
        → Beside R (cond b (x ∷ filter p xs) (filter p xs)) (cond c (y ∷ filter q ys) (filter q ys))
    by_test true true same rest = (all.0, rest)
    by_test true false same rest = cc
    by_test false true same rest = cc
    by_test false false same rest = rest

pub beside_filter_map : {X Y U V : Type 0} (R : X → Y → Type 0) (S : U → V → Type 0) (f : X → Option U) (g : Y → Option V)
    → ((x : X) (y : Y) → R x y → BothOr S (f x) (g y)) → (xs : List X) (ys : List Y) → Beside R xs ys
    → Beside S (filter_map f xs) (filter_map g ys)
beside_filter_map R S f g keeps [] [] all = tt
beside_filter_map R S f g keeps [] (y ∷ ys) all = absurd all
beside_filter_map R S f g keeps (x ∷ xs) [] all = absurd all
beside_filter_map {U = U} {V = V} R S f g keeps (x ∷ xs) (y ∷ ys) all =
    by_value (f x) (g y) (keeps x y all.0) (beside_filter_map R S f g keeps xs ys all.1)
  where
    by_value : (u : Option U) (v : Option V) → BothOr S u v → Beside S (filter_map f xs) (filter_map g ys)
        → Beside S (cons_option u (filter_map f xs)) (cons_option v (filter_map g ys))
    by_value None None both rest = rest
    by_value None (Some v) both rest = absurd both
    by_value (Some u) None both rest = absurd both
    by_value (Some u) (Some v) both rest = (both, rest)

pub beside_firsts : {X Y : Type 0} (R : X → Y → Type 0) (p : X → X → Bool) (q : Y → Y → Bool)
    → ((x : X) (y : Y) (u : X) (v : Y) → R x y → R u v → p x u ≡ q y v) → (xs : List X) (ys : List Y) → Beside R xs ys
    → Beside R (firsts p xs) (firsts q ys)
beside_firsts R p q agree [] [] all = tt
beside_firsts R p q agree [] (y ∷ ys) all = absurd all
beside_firsts R p q agree (x ∷ xs) [] all = absurd all
beside_firsts R p q agree (x ∷ xs) (y ∷ ys) all = (
  all.0,
  beside_filter R (λ u. not (p x u)) (λ v. not (q y v)) (λ u v like. ap not (agree x y u v all.0 like))
      (firsts p xs) (firsts q ys) (beside_firsts R p q agree xs ys all.1),
)

-- tests and choices on cells

passes_like : {C D : Type 0} (R : C → D → Type 0) (p : C → Bool) (q : D → Bool) → ((c : C) (d : D) → R c d → p c ≡ q d)
    → (c : Option C) (d : Option D) → BothOr R c d → passes p c ≡ passes q d
passes_like R p q agree None None both = refl
passes_like R p q agree None (Some d) both = absurd both
passes_like R p q agree (Some c) None both = absurd both
passes_like R p q agree (Some c) (Some d) both = agree c d both

both_pass_like : {C D : Type 0} (R S : C → D → Type 0) (p : C → C → Bool) (q : D → D → Bool)
    → ((c : C) (d : D) (e : C) (f : D) → R c d → S e f → p c e ≡ q d f) → (c : Option C) (d : Option D) (e : Option C)
    (f : Option D) → BothOr R c d → BothOr S e f → both_pass p c e ≡ both_pass q d f
both_pass_like R S p q agree None None e f both more = refl
both_pass_like R S p q agree None (Some d) e f both more = absurd both
both_pass_like R S p q agree (Some c) None e f both more = absurd both
both_pass_like R S p q agree (Some c) (Some d) e f both more =
    passes_like S (p c) (q d) (λ x y like. agree c d x y both like) e f more

same_cell_like : {C D : Type 0} (R : C → D → Type 0) (left : Tests C) (right : Tests D)
    → ((c : C) (d : D) (e : C) (f : D) → R c d → R e f → left.pair cmp.Eq c e ≡ right.pair cmp.Eq d f) → (c : Option C)
    (d : Option D) (e : Option C) (f : Option D) → BothOr R c d → BothOr R e f
    → same_cell left c e ≡ same_cell right d f
same_cell_like R left right agree None None None None both more = refl
same_cell_like R left right agree None None None (Some f) both more = absurd more
same_cell_like R left right agree None None (Some e) None both more = absurd more
same_cell_like R left right agree None None (Some e) (Some f) both more = refl
same_cell_like R left right agree None (Some d) e f both more = absurd both
same_cell_like R left right agree (Some c) None e f both more = absurd both
same_cell_like R left right agree (Some c) (Some d) e f both more =
    passes_like R (left.pair cmp.Eq c) (right.pair cmp.Eq d) (λ x y like. agree c d x y both like) e f more

or_like : {C D : Type 0} (R S Q : C → D → Type 0) → ((c : C) (d : D) → R c d → Q c d)
    → ((c : C) (d : D) → S c d → Q c d) → (c : Option C) (d : Option D) (e : Option C) (f : Option D) → BothOr R c d
    → BothOr S e f → BothOr Q (option_or c e) (option_or d f)
or_like R S Q first second None None None None both more = tt
or_like R S Q first second None None None (Some f) both more = absurd more
or_like R S Q first second None None (Some e) None both more = absurd more
or_like R S Q first second None None (Some e) (Some f) both more = second e f more
or_like R S Q first second None (Some d) e f both more = absurd both
or_like R S Q first second (Some c) None e f both more = absurd both
or_like R S Q first second (Some c) (Some d) e f both more = first c d both

both_like : {C D : Type 0} (R Q : C → D → Type 0) → ((c : C) (d : D) → R c d → Q c d) → (c : Option C) (d : Option D)
    → BothOr R c d → BothOr Q c d
both_like R Q leads None None both = tt
both_like R Q leads None (Some d) both = absurd both
both_like R Q leads (Some c) None both = absurd both
both_like R Q leads (Some c) (Some d) both = leads c d both

-- rows

cut_like : {C D : Type 0} (R Q : ℕ → C → D → Type 0) (set : ℕ) → ((a : ℕ) → has set a ≡ true → LeadsAt R Q a)
    → (u : RowOf C) (v : RowOf D) → IsLike R u v → IsLike Q (cut set u) (cut set v)
cut_like R Q set leads u v like = record { cells = λ a. by_test a (has set a) refl; count = like.count }
  where
    by_test : (a : ℕ) (b : Bool) → has set a ≡ b → BothOr (Q a) (cond b (u.cell a) None) (cond b (v.cell a) None)
    by_test a true inside = both_like (R a) (Q a) (leads a inside) (u.cell a) (v.cell a) (like.cells a)
    by_test a false outside = tt

merge_like : {C D : Type 0} (R S Q : ℕ → C → D → Type 0) → ((a : ℕ) → LeadsAt R Q a) → ((a : ℕ) → LeadsAt S Q a)
    → (u : RowOf C) (v : RowOf D) (w : RowOf C) (z : RowOf D) → IsLike R u v → IsLike S w z
    → IsLike Q (merge u w) (merge v z)
merge_like R S Q first second u v w z like more = record {
  cells = λ a. or_like (R a) (S a) (Q a) (first a) (second a) (u.cell a) (v.cell a) (w.cell a) (z.cell a) (like.cells a)
      (more.cells a);
  count = rw (like.count, more.count) refl;
}

same_cells_like : {C D : Type 0} (R : ℕ → C → D → Type 0) (left : Tests C) (right : Tests D) (set : ℕ)
    → ((a : ℕ) → has set a ≡ true → RespectsPair R left right a cmp.Eq a) → (u : RowOf C) (v : RowOf D) (w : RowOf C)
    (z : RowOf D) → IsLike R u v → IsLike R w z → same_cells left set u w ≡ same_cells right set v z
same_cells_like R left right set keys u v w z like more =
    list_all-members set (λ a. same_cell left (u.cell a) (w.cell a)) (λ a. same_cell right (v.cell a) (z.cell a))
    (λ a inside. same_cell_like (R a) left right (keys a inside) (u.cell a) (v.cell a) (w.cell a) (z.cell a) (like.cells a)
    (more.cells a))

reduce_like : {C D : Type 0} (R Q : C → D → Type 0) (f : C → C → C) (g : D → D → D) (most : ℕ)
    → ((c : C) (d : D) (cs : List C) (ds : List D) → R c d → Beside R cs ds → suc (length cs) ≤ most
    → Q (fold f c cs) (fold g d ds)) → (cs : List C) (ds : List D) → length cs ≤ most → Beside R cs ds
    → BothOr Q (reduce f cs) (reduce g ds)
reduce_like R Q f g most keeps [] [] few all = tt
reduce_like R Q f g most keeps [] (d ∷ ds) few all = absurd all
reduce_like R Q f g most keeps (c ∷ cs) [] few all = absurd all
reduce_like R Q f g most keeps (c ∷ cs) (d ∷ ds) few all = keeps c d cs ds all.0 all.1 few

aggregate_like : {C D : Type 0} (R Q : ℕ → C → D → Type 0) (left : Tests C) (right : Tests D) (most a : ℕ)
    (func : Option Agg) → ((f : Agg) → func ≡ Some f → RespectsFold R Q left right most a f) → (us : List (RowOf C))
    (vs : List (RowOf D)) → length us ≤ most → AreLike R us vs
    → BothOr (Q a) (aggregate left func a us) (aggregate right func a vs)
aggregate_like R Q left right most a None made us vs few all = tt
aggregate_like R Q left right most a (Some f) made us vs few all =
    reduce_like (R a) (Q a) (left.step f) (right.step f) most (made f refl) (filter_map (λ r. r.cell a) us)
    (filter_map (λ r. r.cell a) vs) (below (filter_map-length (λ r. r.cell a) us) few)
    (beside_filter_map (IsLike R) (R a) (λ r. r.cell a) (λ r. r.cell a) (λ u v like. like.cells a) us vs all)
  where
    below : {k n m : ℕ} → k ≤ n → n ≤ m → k ≤ m
    below first second = omega arith

group_row_like : {C D : Type 0} (R Q : ℕ → C → D → Type 0) (left : Tests C) (right : Tests D) (set : ℕ)
    (aggs : List (AttrId × Agg)) (counted : Bool) (most : ℕ) → RespectsGroup R Q left right set aggs most → (u : RowOf C)
    (v : RowOf D) → IsLike R u v → (us : List (RowOf C)) (vs : List (RowOf D)) → length us ≤ most → AreLike R us vs
    → IsLike Q (group_row left set aggs counted u us) (group_row right set aggs counted v vs)
group_row_like R Q left right set aggs counted most respects u v like us vs few all = record {
  cells = λ a. by_test a (has set a) refl;
  count = ap (λ n. cond counted (Some n) None) (beside_length (IsLike R) us vs all);
}
  where
    by_test : (a : ℕ) (b : Bool) → has set a ≡ b → BothOr (Q a) (cond b (u.cell a) (aggregate left (function_of aggs a) a us))
        (cond b (v.cell a) (aggregate right (function_of aggs a) a vs))
    by_test a true inside = both_like (R a) (Q a) (respects.kept a inside) (u.cell a) (v.cell a) (like.cells a)
    by_test a false outside =
        aggregate_like R Q left right most a (function_of aggs a) (respects.made a outside) us vs few all

-- lists of rows

pub constant_keeps : {C D : Type 0} (R : ℕ → C → D → Type 0) → ConstantKeeps R
constant_keeps R left right a op value us vs respects all =
    beside_filter (IsLike R) (passes_constant left a op value) (passes_constant right a op value)
    (λ u v like. passes_like (R a) (left.constant a op value) (right.constant a op value) respects (u.cell a) (v.cell a)
    (like.cells a)) us vs all

pair_like : {C D : Type 0} (R : ℕ → C → D → Type 0) (left : Tests C) (right : Tests D) (a : ℕ) (op : CmpOp) (b : ℕ)
    → RespectsPair R left right a op b → (u : RowOf C) (v : RowOf D) → IsLike R u v
    → passes_pair left a op b u ≡ passes_pair right a op b v
pair_like R left right a op b respects u v like =
    both_pass_like (R a) (R b) (left.pair op) (right.pair op) respects (u.cell a) (v.cell a) (u.cell b) (v.cell b)
    (like.cells a) (like.cells b)

pub pair_keeps : {C D : Type 0} (R : ℕ → C → D → Type 0) → PairKeeps R
pair_keeps R left right a op b us vs respects all =
    beside_filter (IsLike R) (passes_pair left a op b) (passes_pair right a op b)
    (pair_like R left right a op b respects) us vs all

pub count_keeps : {C D : Type 0} (R : ℕ → C → D → Type 0) → CountKeeps R
count_keeps R op number us vs all =
    beside_filter (IsLike R) (passes_count op number) (passes_count op number) (λ u v like. rw like.count refl) us vs all

pub cut_keeps : {C D : Type 0} (R Q : ℕ → C → D → Type 0) → CutKeeps R Q
cut_keeps R Q set us vs leads all =
    beside_map (IsLike R) (IsLike Q) (cut set) (cut set) (cut_like R Q set leads) us vs all

pub product_keeps : {C D : Type 0} (R S Q : ℕ → C → D → Type 0) → ProductKeeps R S Q
product_keeps R S Q us vs more others first second all rest =
    beside_flat_map (IsLike R) (IsLike Q) (λ u. map (merge u) more) (λ v. map (merge v) others)
    (λ u v like. beside_map (IsLike S) (IsLike Q) (merge u) (merge v)
    (λ w z also. merge_like R S Q first second u v w z like also) more others rest) us vs all

pub join_keeps : {C D : Type 0} (R S Q : ℕ → C → D → Type 0) → JoinKeeps R S Q
join_keeps R S Q left right a op b us vs more others first second respects all rest =
    pair_keeps Q left right a op b (product us more) (product vs others) respects
    (product_keeps R S Q us vs more others first second all rest)

pub group_keeps : {C D : Type 0} (R Q : ℕ → C → D → Type 0) → GroupKeeps R Q
group_keeps R Q left right set aggs counted us vs respects all =
    beside_map (IsLike R) (IsLike Q) (λ u. group_row left set aggs counted u (filter (same_cells left set u) us))
    (λ v. group_row right set aggs counted v (filter (same_cells right set v) vs))
    (λ u v like. group_row_like R Q left right set aggs counted (length us) respects u v like
    (filter (same_cells left set u) us) (filter (same_cells right set v) vs) (filter-length (same_cells left set u) us)
    (beside_filter (IsLike R) (same_cells left set u) (same_cells right set v)
    (λ w z more. same_cells_like R left right set respects.keys u v w z like more) us vs all))
    (firsts (same_cells left set) us) (firsts (same_cells right set) vs)
    (beside_firsts (IsLike R) (same_cells left set) (same_cells right set)
    (same_cells_like R left right set respects.keys) us vs all)

item_like : {C D : Type 0} (R : ℕ → C → D → Type 0) (S : C → D → Type 0) (number : ℕ → C) (figure : ℕ → D)
    → ((a : ℕ) (c : C) (d : D) → R a c d → S c d) → ((n : ℕ) → S (number n) (figure n)) → (u : RowOf C) (v : RowOf D)
    → IsLike R u v → (i : Item) → BothOr S (item_of number u i) (item_of figure v i)
item_like R S number figure leads counts u v like (item.Attr a) =
    both_like (R a.0) S (leads a.0) (u.cell a.0) (v.cell a.0) (like.cells a.0)
item_like R S number figure leads counts u v like item.Count = of_count u.count v.count like.count
  where
    of_count : (m n : Option ℕ) → m ≡ n → BothOr S (option_map number m) (option_map figure n)
    of_count None None same = tt
    of_count None (Some n) same = cc
    of_count (Some m) None same = cc
    of_count (Some m) (Some n) same = subst (λ o. BothOr S (option_map number (Some m)) (option_map figure o)) same (counts m)

selected_like : {C D : Type 0} (R : ℕ → C → D → Type 0) (S : C → D → Type 0) (number : ℕ → C) (figure : ℕ → D)
    → ((a : ℕ) (c : C) (d : D) → R a c d → S c d) → ((n : ℕ) → S (number n) (figure n)) → (u : RowOf C) (v : RowOf D)
    → IsLike R u v → (items : List Item) → Beside S (selected number items u) (selected figure items v)
selected_like R S number figure leads counts u v like [] = tt
selected_like {C = C} {D = D} R S number figure leads counts u v like (i ∷ rest) =
    by_value (item_of number u i) (item_of figure v i) (item_like R S number figure leads counts u v like i)
    (selected_like R S number figure leads counts u v like rest)
  where
    by_value : (c : Option C) (d : Option D) → BothOr S c d → Beside S (selected number rest u) (selected figure rest v)
        → Beside S (cons_option c (selected number rest u)) (cons_option d (selected figure rest v))
    by_value None None both more = more
    by_value None (Some d) both more = absurd both
    by_value (Some c) None both more = absurd both
    by_value (Some c) (Some d) both more = (both, more)

pub select_keeps : {C D : Type 0} (R : ℕ → C → D → Type 0) (S : C → D → Type 0) → SelectKeeps R S
select_keeps R S number figure items us vs leads counts all =
    beside_map (IsLike R) (Beside S) (selected number items) (selected figure items)
    (λ u v like. selected_like R S number figure leads counts u v like items) us vs all

-- rows that belong together by a family do so by each that it leads to
pub leads_keep : {C D : Type 0} (R Q : ℕ → C → D → Type 0) → ((a : ℕ) → LeadsAt R Q a) → (us : List (RowOf C))
    (vs : List (RowOf D)) → AreLike R us vs → AreLike Q us vs
leads_keep R Q leads [] [] all = tt
leads_keep R Q leads [] (v ∷ vs) all = absurd all
leads_keep R Q leads (u ∷ us) [] all = absurd all
leads_keep R Q leads (u ∷ us) (v ∷ vs) all = (
  record {
    cells = λ a. both_like (R a) (Q a) (leads a) (u.cell a) (v.cell a) (all.0.cells a);
    count = all.0.count;
  },
  leads_keep R Q leads us vs all.1,
)

like_mapped : {C D : Type 0} (change : ℕ → C → D) (u : RowOf C) (v : RowOf D) → IsLike (λ a c d. change a c ≡ d) u v
    → mapped change u ≡ v
like_mapped {C = C} {D = D} change u v like =
    same_row (mapped change u) v (λ a. by_value a (u.cell a) (v.cell a) (like.cells a)) like.count
  where
    by_value : (a : ℕ) (c : Option C) (d : Option D) → BothOr (λ x y. change a x ≡ y) c d → option_map (change a) c ≡ d
    by_value a None None both = refl
    by_value a None (Some d) both = absurd both
    by_value a (Some c) None both = absurd both
    by_value a (Some c) (Some d) both = ap Some both

pub mapped_from_like : {C D : Type 0} → LikeIsMapped C D
mapped_from_like change [] [] all = refl
mapped_from_like change [] (v ∷ vs) all = absurd all
mapped_from_like change (u ∷ us) [] all = absurd all
mapped_from_like change (u ∷ us) (v ∷ vs) all = rw (like_mapped change u v all.0, mapped_from_like change us vs all.1) refl

like_same : {C : Type 0} (u v : RowOf C) → IsLike (λ a c d. c ≡ d) u v → u ≡ v
like_same {C = C} u v like = same_row u v (λ a. by_value (u.cell a) (v.cell a) (like.cells a)) like.count
  where
    by_value : (c d : Option C) → BothOr (λ x y. x ≡ y) c d → c ≡ d
    by_value None None both = refl
    by_value None (Some d) both = absurd both
    by_value (Some c) None both = absurd both
    by_value (Some c) (Some d) both = ap Some both

pub same_from_like : {C : Type 0} → LikeIsSame C
same_from_like [] [] all = refl
same_from_like [] (v ∷ vs) all = absurd all
same_from_like (u ∷ us) [] all = absurd all
same_from_like (u ∷ us) (v ∷ vs) all = rw (like_same u v all.0, same_from_like us vs all.1) refl
