-- Lists of cells and values that grow by one row, and what a whole column of seals opens to.
use Rattle.std.proofs.Common.{◌≡◌, ℕ, suc, ◌+◌, ◌^◌, ◌<◌, ◌≤◌, List, [], ◌∷◌, ◌++◌, length, get_or, take, refl, sym, ◌∙◌, ap, subst, arith, IsTrue, ◌==◌}
use Rattle.std.proofs.lemmas.Bool.{eqb-true}
use Rattle.std.proofs.lemmas.Bool.Decides.{nat_tests}
use Rattle.std.proofs.lemmas.List.Elements.{All-append, All-cons, All-head, All-nil, All-tail}
use Rattle.std.specs.List.{All, AllZip}
use Rattle.mq_base.specs.declared.table.Scheme.{Scheme}
use Rattle.mq_base.specs.declared.value.Value.{Value}
use Rattle.mq_base.specs.declared.value.Value.TheVariants.{Int, Text}
use Rattle.mq_base.specs.declared.value.ValueType.{ValueType}
use Rattle.mq_base.specs.declared.value.ValueType.TheVariants as type
use Rattle.mq_base.specs.Bytes.{IsShort}
use Rattle.mq_base.specs.Value.{type_of}
use Rattle.sealed_column.proofs.SmallLaws.{longer, short_from_test}
use Rattle.sealed_column.specs.Cells.{OpenTo}
use Rattle.sealed_column.specs.Seal.{IsSealable, IsValueOf, Opens, cell_length, seal, sealed_from}
use Rattle.sealed_column.specs.SealLaws.{seal_length, seal_opens}
use Rattle.sealed_column.specs.inside.Opening.{IsOpened}

-- ---- one more row

sealed-push : (scheme : Scheme) (key : List ℕ) (place row : ℕ) (values : List Value) (value : Value)
    → sealed_from scheme key place row (values ++ value ∷ [])
    ≡ sealed_from scheme key place row values ++ seal scheme key place (row + length values) value ∷ []
sealed-push scheme key place row [] value =
    let here : row + 0 ≡ row = omega arith in ap (λ (n : ℕ). seal scheme key place n value ∷ []) (sym here)
sealed-push scheme key place row (first ∷ rest) value =
    let along : row + 1 + length rest ≡ row + suc (length rest) = omega arith in
    ap (λ (cells : List (List ℕ)). seal scheme key place row first ∷ cells)
    (sealed-push scheme key place (row + 1) rest value
    ∙ ap (λ (n : ℕ). sealed_from scheme key place (row + 1) rest ++ seal scheme key place n value ∷ []) along)

length-sealed_from : (scheme : Scheme) (key : List ℕ) (place row : ℕ) (values : List Value)
    → length (sealed_from scheme key place row values) ≡ length values
length-sealed_from scheme key place row [] = refl
length-sealed_from scheme key place row (first ∷ rest) = ap suc (length-sealed_from scheme key place (row + 1) rest)

-- the cells with that of one more row
pub sealed_more : (scheme : Scheme) (key : List ℕ) (place i : ℕ) (values : List Value) (value : Value) (cell : List ℕ)
    (before after : List (List ℕ)) → i < length values → value ≡ get_or values i value
    → before ≡ sealed_from scheme key place 0 (take i values) → cell ≡ seal scheme key place (length before) value
    → after ≡ before ++ cell ∷ [] → after ≡ sealed_from scheme key place 0 (take (i + 1) values)
sealed_more scheme key place i values value cell before after below read so_far is pushed =
    let row : length before ≡ 0 + length (take i values) =
    omega (arith, ap length so_far, length-sealed_from scheme key place 0 (take i values)) in
    pushed
    ∙ ap (λ (cells : List (List ℕ)). cells ++ cell ∷ []) so_far
    ∙ ap (λ (c : List ℕ). sealed_from scheme key place 0 (take i values) ++ c ∷ []) (is ∙ ap (λ (n : ℕ). seal scheme key place n value) row)
    ∙ sym (sealed-push scheme key place 0 (take i values) value)
    ∙ ap (sealed_from scheme key place 0) (sym (longer values i value below read))

-- what holds of the members so far and of one more
pub all_more : {X : Type 0} (P : X → Type 0) (xs : List X) (i : ℕ) (x : X) → i < length xs → x ≡ get_or xs i x → All P (take i xs)
    → P x → All P (take (i + 1) xs)
all_more {X} P xs i x below read so_far here =
    subst (λ (ys : List X). All P ys) (sym (longer xs i x below read))
    (All-append P (take i xs) (x ∷ []) so_far (All-cons P x [] here (All-nil P)))

zip-push : {A B : Type 0} (R : A → B → Type 0) (xs : List A) (ys : List B) (x : A) (y : B) → AllZip R xs ys → R x y
    → AllZip R (xs ++ x ∷ []) (ys ++ y ∷ [])
zip-push R [] [] x y all here = (here, tt)
zip-push R [] (z ∷ ys) x y all here = absurd all
zip-push R (z ∷ xs) [] x y all here = absurd all
zip-push R (w ∷ xs) (z ∷ ys) x y all here = (all.0, zip-push R xs ys x y all.1 here)

-- two lists that belong together so far, with one more of each
pub zip_more : {A B : Type 0} (R : A → B → Type 0) (xs : List A) (i : ℕ) (ys after : List B) (x : A) (y : B) → i < length xs
    → x ≡ get_or xs i x → AllZip R (take i xs) ys → R x y → after ≡ ys ++ y ∷ [] → AllZip R (take (i + 1) xs) after
zip_more {A} {B} R xs i ys after x y below read so_far here pushed =
    subst (λ (zs : List B). AllZip R (take (i + 1) xs) zs) (sym pushed)
    (subst (λ (zs : List A). AllZip R zs (ys ++ y ∷ [])) (sym (longer xs i x below read)) (zip-push R (take i xs) ys x y so_far here))

-- ---- whole columns

-- a value of a type has it, and is short
pub value_typed : (ty : ValueType) (v : Value) → IsValueOf ty v → type_of v ≡ ty
value_typed type.Int (Int x) is = refl
value_typed type.Int (Text t) is = cc
value_typed type.Text (Int x) is = cc
value_typed type.Text (Text t) is = refl

pub value_short : (ty : ValueType) (v : Value) → IsValueOf ty v → IsShort v
value_short type.Int (Int x) is = tt
value_short type.Int (Text t) is = cc
value_short type.Text (Int x) is = tt
value_short type.Text (Text t) is = short_from_test (length t) is

-- values of a type are short
pub all_short : (ty : ValueType) (values : List Value) → All (IsValueOf ty) values → All IsShort values
all_short ty [] all = All-nil IsShort
all_short ty (v ∷ rest) all =
    All-cons IsShort v rest (value_short ty v (All-head (IsValueOf ty) v rest all)) (all_short ty rest (All-tail (IsValueOf ty) v rest all))

-- the cells of a column are as long as its scheme and type say
pub all_long : (scheme : Scheme) (ty : ValueType) (cells : List (List ℕ)) → All (λ cell. IsTrue (length cell == cell_length scheme ty)) cells
    → All (λ cell. length cell ≡ cell_length scheme ty) cells
all_long scheme ty cells all = λ k d within. eqb-true (length (get_or cells k d)) (cell_length scheme ty) (all k d within)

pub all_tested : (scheme : Scheme) (ty : ValueType) (cells : List (List ℕ)) → All (λ cell. length cell ≡ cell_length scheme ty) cells
    → All (λ cell. IsTrue (length cell == cell_length scheme ty)) cells
all_tested scheme ty cells all = λ k d within. same_test (length (get_or cells k d)) (cell_length scheme ty) (all k d within)
  where
    same_test : (m n : ℕ) → m ≡ n → IsTrue (m == n)
    same_test m n same = grind (arith, nat_tests)

-- the seals of a column's values have the length of its cells
pub seals_sized : (scheme : Scheme) (key : List ℕ) (place row : ℕ) (ty : ValueType) (values : List Value) → All (IsValueOf ty) values
    → All (λ cell. length cell ≡ cell_length scheme ty) (sealed_from scheme key place row values)
seals_sized scheme key place row ty [] all = All-nil (λ cell. length cell ≡ cell_length scheme ty)
seals_sized scheme key place row ty (v ∷ rest) all =
    let first : IsValueOf ty v = All-head (IsValueOf ty) v rest all in
    All-cons (λ cell. length cell ≡ cell_length scheme ty) (seal scheme key place row v) (sealed_from scheme key place (row + 1) rest)
    (seal_length scheme key place row v (value_short ty v first) ∙ ap (cell_length scheme) (value_typed ty v first))
    (seals_sized scheme key place (row + 1) ty rest (All-tail (IsValueOf ty) v rest all))

-- the seals of values of a type open to them
pub seals_open : (scheme : Scheme) (key : List ℕ) (place row : ℕ) (ty : ValueType) (values : List Value) → place < 2 ^ 32
    → row + length values ≤ 2 ^ 64 → All (IsValueOf ty) values → All IsSealable values
    → OpenTo (Opens scheme key) ty (sealed_from scheme key place row values) values
seals_open scheme key place row ty [] place_fits rows_fit all sealable = tt
seals_open scheme key place row ty (v ∷ rest) place_fits rows_fit all sealable = (
  record {
    typed = value_typed ty v (All-head (IsValueOf ty) v rest all);
    opened = seal_opens scheme key place row v place_fits (omega arith) (All-head IsSealable v rest sealable);
  },
  seals_open scheme key place (row + 1) ty rest place_fits (omega arith) (All-tail (IsValueOf ty) v rest all)
      (All-tail IsSealable v rest sealable),
)

-- the values that a column's cells were opened to are of its type
pub opened_typed : (scheme : Scheme) (key : List ℕ) (ty : ValueType) (cells : List (List ℕ)) (values : List Value)
    → AllZip (IsOpened scheme key ty) cells values → All (IsValueOf ty) values
opened_typed scheme key ty [] [] all = All-nil (IsValueOf ty)
opened_typed scheme key ty [] (v ∷ values) all = absurd all
opened_typed scheme key ty (c ∷ cells) [] all = absurd all
opened_typed scheme key ty (c ∷ cells) (v ∷ values) all =
    All-cons (IsValueOf ty) v values all.0.form (opened_typed scheme key ty cells values all.1)

-- and are the values that the cells open to
pub opened_same : (scheme : Scheme) (key : List ℕ) (ty : ValueType) (cells : List (List ℕ)) (found values : List Value)
    → AllZip (IsOpened scheme key ty) cells found → OpenTo (Opens scheme key) ty cells values → found ≡ values
opened_same scheme key ty [] [] [] all opens = refl
opened_same scheme key ty [] [] (v ∷ values) all opens = absurd opens
opened_same scheme key ty [] (f ∷ found) values all opens = absurd all
opened_same scheme key ty (c ∷ cells) [] values all opens = absurd all
opened_same scheme key ty (c ∷ cells) (f ∷ found) [] all opens = absurd opens
opened_same scheme key ty (c ∷ cells) (f ∷ found) (v ∷ values) all opens =
    let here : f ≡ v = all.0.opened v opens.0.typed opens.0.opened in
    let rest : found ≡ values = opened_same scheme key ty cells found values all.1 opens.1 in cc
