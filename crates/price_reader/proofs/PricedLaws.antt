-- What holds of prices whose lists have no fault.
use Rattle.std.proofs.Common.{◌≡◌, ℕ, zero, suc, ◌<◌, ◌≤◌, ℤ, pos, negsuc, Bool, true, false, not, ◌||◌, List, [], ◌∷◌, ◌++◌, length, get_or, find, map, replicate, Option, Some, None, refl, ◌∙◌, ap, arith, bytes_eq, cond}
use Rattle.std.specs.Prelude.{slice_get, slice_index, if◌then◌else◌}
use Rattle.std.specs.List.{list_any}
use Rattle.std.specs.Option.{option_or}
use Rattle.std.proofs.lemmas.Bool.Decides.{nat_tests}
use Rattle.std.proofs.lemmas.Option.{slice_get_within, slice_get-get_or}
use Rattle.std.proofs.lemmas.Slice.Eq.{bytes_eq-Decides}
use Rattle.base_laws.specs.Firsts.{first_at}
use Rattle.base_laws.proofs.FirstLaws.{first_at-none, none_left}
use Rattle.base_laws.proofs.PlaceLaws.{found_place, replicate-holds}
use Rattle.mq_base.specs.declared.refusal.Refusal.{Refusal}
use Rattle.policy_base.specs.Names.{is_one_of}
use Rattle.price_reader.specs.declared.raw.Entry.{Entry}
use Rattle.price_reader.specs.declared.raw.Link.{Link}
use Rattle.price_reader.specs.declared.raw.RawPrices.{RawPrices}
use Rattle.price_reader.specs.declared.refusal.PriceCode.{PriceCode}
use Rattle.price_reader.specs.declared.refusal.PriceCode.TheVariants.{UnknownName, OutOfRange, Missing}
use Rattle.price_reader.specs.Faults.{fault, is_out, is_entry, entry_fault, missing_fault, section_fault, net_fault, links_fault, sections_fault}
use Rattle.price_reader.specs.Outcome.{kept, number_for, numbers, price, prices_from, net_prices, sections_value}
use Rattle.policy_base.specs.Priced.{IsPriced}
use Rattle.price_reader.specs.inside.Checks.{Fits64, AllFit64}
use Rattle.policy_base.specs.declared.prices.Prices.{Prices}

-- what stands at a place of a padded list
padded_at : {A B : Type 0} (n : ℕ) (past : B) (value : A → B) (xs : List A) (k : ℕ) (x : A) (d : B) → slice_get xs k ≡ Some x
    → get_or (map value xs ++ replicate n past) k d ≡ value x
padded_at n past value [] k x d there = cc
padded_at n past value (y ∷ xs) zero x d there = let same : y ≡ x = cc in ap value same
padded_at n past value (y ∷ xs) (suc k) x d there = padded_at n past value xs k x d there

-- and what holds of the value past the last, and of none, holds past the last
padded_past : {A B : Type 0} (P : B → Type 0) (n : ℕ) (past : B) (value : A → B) (xs : List A) (k : ℕ) (d : B) → slice_get xs k ≡ None
    → P past → P d → P (get_or (map value xs ++ replicate n past) k d)
padded_past P n past value [] k d none of_past of_none = replicate-holds P n past k d of_past of_none
padded_past P n past value (y ∷ xs) zero d none of_past of_none = cc
padded_past P n past value (y ∷ xs) (suc k) d none of_past of_none = padded_past P n past value xs k d none of_past of_none

-- sending to oneself is free
free_from : (subjects : List (List ℕ)) (default : ℤ) (links : List Link) (s : ℕ) (name : List ℕ) → slice_get subjects s ≡ Some name
    → slice_index (prices_from subjects default links name) s ≡ 0
free_from subjects default links s name there =
    let itself : bytes_eq name name ≡ true = (bytes_eq-Decides name name).1 refl in
    let found : slice_index (prices_from subjects default links name) s ≡ price default links name name =
    padded_at _ 0 (price default links name) subjects s name 0 there in
    let nothing : price default links name name ≡ 0 = rw itself refl in
    found ∙ nothing

own_way_free : (subjects : List (List ℕ)) (default : ℤ) (links : List Link) (s : ℕ)
    → slice_index (get_or (net_prices subjects default links) s []) s ≡ 0
own_way_free subjects default links s = by_subject (slice_get subjects s) refl
  where
    no_row : slice_index (replicate 16 0) s ≡ 0
    no_row = replicate-holds (λ n. n ≡ 0) 16 0 s 0 refl refl

    by_subject : (o : Option (List ℕ)) → slice_get subjects s ≡ o → slice_index (get_or (net_prices subjects default links) s []) s ≡ 0
    by_subject None none = padded_past (λ (row : List ℕ). slice_index row s ≡ 0) _ (replicate 16 0) (prices_from subjects default links) subjects s []
        none no_row refl
    by_subject (Some name) there =
        let row : get_or (net_prices subjects default links) s [] ≡ prices_from subjects default links name =
        padded_at _ (replicate 16 0) (prices_from subjects default links) subjects s name [] there in
        ap (λ (row : List ℕ). slice_index row s) row ∙ free_from subjects default links s name there

-- a test that is not met, of two in a row
if_passed : (b : Bool) (code : PriceCode) (at item : ℕ) (rest : Option Refusal) → (if b then fault code at item else rest) ≡ None
    → (b ≡ false) × (rest ≡ None)
if_passed true code at item rest none = cc
if_passed false code at item rest none = (refl, none)

not_false : (b : Bool) → not b ≡ false → b ≡ true
not_false true same = refl
not_false false same = cc

-- a number in range
in_range : (number : ℤ) → is_out 1 number ≡ false → 1 ≤ kept number
in_range (pos n) within = grind (arith, nat_tests)
in_range (negsuc n) within = cc

-- an item that some test finds
any_found : {X : Type 0} (test : X → Bool) (xs : List X) → list_any test xs ≡ true → (x : X) × (find test xs ≡ Some x)
any_found test [] any = cc
any_found {X} test (y ∷ xs) any = by_first (test y) refl any (any_found test xs)
  where
    by_first : (b : Bool) → test y ≡ b → (b || list_any test xs) ≡ true → (list_any test xs ≡ true → (x : X) × (find test xs ≡ Some x))
        → (x : X) × (cond b (Some y) (find test xs) ≡ Some x)
    by_first true passes any rest = (y, refl)
    by_first false fails any rest = rest any

-- an entry of a section without a fault
entry_passes : (names : List (List ℕ)) (least at : ℕ) (entries : List Entry) (k : ℕ) (entry : Entry) → slice_get entries k ≡ Some entry
    → entry_fault names least at entries k ≡ None → is_out least entry.number ≡ false
entry_passes names least at entries k entry there none =
    let here : (if not (is_one_of entry.name names) then fault UnknownName at k
    else if is_out least entry.number then fault OutOfRange at k else None) ≡ None = rw there at none in
    let known = if_passed (not (is_one_of entry.name names)) UnknownName at k (if is_out least entry.number then fault OutOfRange at k else None) here in
    (if_passed (is_out least entry.number) OutOfRange at k None known.1).0

name_passes : (names : List (List ℕ)) (at : ℕ) (entries : List Entry) (k : ℕ) (name : List ℕ) → slice_get names k ≡ Some name
    → missing_fault names at entries k ≡ None → list_any (is_entry name) entries ≡ true
name_passes names at entries k name there none =
    let here : (if not (list_any (is_entry name) entries) then fault Missing at k else None) ≡ None = rw there at none in
    not_false (list_any (is_entry name) entries) (if_passed (not (list_any (is_entry name) entries)) Missing at k None here).0

-- where the least number is 1, each name of a section without a fault has at least 1
section_some : (names : List (List ℕ)) (at : ℕ) (entries : List Entry) → section_fault names 1 at entries ≡ None
    → (k : ℕ) (name : List ℕ) → slice_get names k ≡ Some name → 1 ≤ number_for entries name
section_some names at entries none k name there = by_entry (any_found (is_entry name) entries present)
  where
    both : (first_at (entry_fault names 1 at entries) 0 (length entries) ≡ None) × (first_at (missing_fault names at entries) 0 (length names) ≡ None)
    both = none_left (first_at (entry_fault names 1 at entries) 0 (length entries)) (first_at (missing_fault names at entries) 0 (length names)) none

    present : list_any (is_entry name) entries ≡ true
    present =
        let below : k < length names = slice_get_within names k name there in
        name_passes names at entries k name there (first_at-none (missing_fault names at entries) 0 (length names) both.1 k (omega arith) (omega arith))

    at_place : (entry : Entry) → (place : ℕ) × ((slice_get entries place ≡ Some entry) × (is_entry name entry ≡ true)) → 1 ≤ kept entry.number
    at_place entry (place, (entry_there, own)) =
        let below : place < length entries = slice_get_within entries place entry entry_there in
        in_range entry.number (entry_passes names 1 at entries place entry entry_there
        (first_at-none (entry_fault names 1 at entries) 0 (length entries) both.0 place (omega arith) (omega arith)))

    by_entry : (entry : Entry) × (find (is_entry name) entries ≡ Some entry) → 1 ≤ number_for entries name
    by_entry (entry, found) = rw found (at_place entry (found_place (is_entry name) entries entry found))

some_distinct : (subjects tables attributes : List (List ℕ)) (raw : RawPrices) → sections_fault subjects tables attributes raw ≡ None
    → (a : ℕ) → a < length attributes → 1 ≤ slice_index (numbers 64 attributes raw.distinct.entries) a
some_distinct subjects tables attributes raw none a below =
    let distinct = section_fault attributes 1 4 raw.distinct.entries in
    let rows = option_or (section_fault tables 0 3 raw.rows.entries) distinct in
    let links = option_or (links_fault subjects raw.links) rows in
    let net = option_or (net_fault raw.net.default) links in
    let one = none_left (section_fault subjects 0 0 raw.cpu.entries) net none in
    let two = none_left (net_fault raw.net.default) links one.1 in
    let three = none_left (links_fault subjects raw.links) rows two.1 in
    let four = none_left (section_fault tables 0 3 raw.rows.entries) distinct three.1 in
    let name = get_or attributes a [] in
    let there : slice_get attributes a ≡ Some name = slice_get-get_or attributes a [] below in
    let here : slice_index (numbers 64 attributes raw.distinct.entries) a ≡ number_for raw.distinct.entries name =
    padded_at _ 0 (number_for raw.distinct.entries) attributes a name 0 there in
    rw here (section_some attributes 4 raw.distinct.entries four.1 a name there)

-- what the layers above need of prices whose lists have no fault
pub priced_for : (subjects tables attributes : List (List ℕ)) (raw : RawPrices) (prices : Prices) → sections_fault subjects tables attributes raw ≡ None
    → prices ≡ sections_value subjects tables attributes raw
    → Fits64 prices.cpu → AllFit64 prices.net → Fits64 prices.rows → Fits64 prices.distinct → IsPriced (length attributes) prices
priced_for subjects tables attributes raw prices none value cpu net rows distinct = record {
  cpu_fits = cpu;
  net_fits = net;
  rows_fit = rows;
  distinct_fit = distinct;
  own_way_free = λ s. rw value (own_way_free subjects raw.net.default raw.links s);
  some_distinct = λ a below. rw value (some_distinct subjects tables attributes raw none a below);
}

pub ruleset priced = (priced_for)
