-- Laws of the policy's value: how far a list of tables, of columns, and of sets has been made.
use Rattle.std.proofs.Common.{◌≡◌, ℕ, suc, ◌+◌, ◌-◌, ◌<◌, ◌≤◌, List, [], ◌∷◌, ◌++◌, length, get_or, take, drop, map, replicate, set, refl, ◌∙◌, ap, arith, add-one, append_assoc}
use Rattle.std.proofs.lemmas.List.{drop_more, drop_all, append-nil, length-map, length-take, map_more, set_at}
use Rattle.std.proofs.Math.Seq.{take-length}
use Rattle.mq_base.specs.declared.attr_set.AttrSet.{AttrSet}
use Rattle.mq_base.specs.declared.schema.AttrInfo.{AttrInfo}
use Rattle.mq_base.specs.declared.schema.TableInfo.{TableInfo}
use Rattle.policy_reader.specs.declared.raw.RawTable.{RawTable}
use Rattle.policy_reader.specs.Grants.{set_of}
use Rattle.policy_reader.specs.Outcome.{table_info, tables_from, column_info, columns_from, sixteen}

-- past a table
pub tables_from-more : (subjects : List (List ℕ)) (done : List TableInfo) (first : ℕ) (tables : List RawTable) (t : ℕ) (d : RawTable)
    → t < length tables → done ++ tables_from subjects first (drop t tables)
    ≡ (done ++ table_info subjects first (get_or tables t d) ∷ []) ++ tables_from subjects (first + length (get_or tables t d).columns) (drop (t + 1) tables)
tables_from-more subjects done first tables t d below =
    rw (drop_more tables t d below, append_assoc) refl

pub tables_from-end : (subjects : List (List ℕ)) (done : List TableInfo) (first : ℕ) (tables : List RawTable) (t : ℕ)
    → length tables ≤ t → done ++ tables_from subjects first (drop t tables) ≡ done
tables_from-end subjects done first tables t past = rw (drop_all t tables past, append-nil) refl

pub columns_from-more : (done : List AttrInfo) (tables : List RawTable) (t : ℕ) (d : RawTable)
    → t < length tables → done ++ columns_from t (drop t tables)
    ≡ (done ++ map (column_info t) (get_or tables t d).columns) ++ columns_from (t + 1) (drop (t + 1) tables)
columns_from-more done tables t d below =
    rw (drop_more tables t d below, append_assoc, add-one) refl

pub columns_from-end : (done : List AttrInfo) (tables : List RawTable) (t : ℕ)
    → length tables ≤ t → done ++ columns_from t (drop t tables) ≡ done
columns_from-end done tables t past = rw (drop_all t tables past, append-nil) refl

pub ruleset lists = (tables_from-more, tables_from-end, columns_from-more, columns_from-end)

-- the sets of the first subjects, and empty ones after them
abbrev pub sixteen_to : (List ℕ → ℕ) → List (List ℕ) → ℕ → List AttrSet
sixteen_to set_for subjects n = map (λ subject. set_of (set_for subject)) (take n subjects) ++ replicate (16 - n) (set_of 0)

-- past a subject
pub sixteen_to-more : (set_for : List ℕ → ℕ) (subjects : List (List ℕ)) (n : ℕ) (subject : List ℕ) (sets : List AttrSet) (value : AttrSet)
    → n < length subjects → n < 16 → sets ≡ sixteen_to set_for subjects n → subject ≡ get_or subjects n subject
    → value.0 ≡ set_for subject → set sets n value ≡ sixteen_to set_for subjects (n + 1)
sixteen_to-more set_for subjects n subject sets value below small made there found =
    let left : 16 - n ≡ suc (16 - (n + 1)) = omega arith in
    let done = map (λ (x : List ℕ). set_of (set_for x)) (take n subjects) in
    let short : length done ≡ n = simp (length-map, length-take) (omega arith) in
    let more = map_more (λ (x : List ℕ). set_of (set_for x)) subjects n subject below in
    let here : value ≡ set_of (set_for (get_or subjects n subject)) = ap set_of (found ∙ ap set_for there) in
    rw (made, left, more, append_assoc, ← here) (set_at done (set_of 0) (replicate (16 - (n + 1)) (set_of 0)) value n short)

pub sixteen_to-end : (set_for : List ℕ → ℕ) (subjects : List (List ℕ)) (n : ℕ) → n ≡ length subjects
    → sixteen_to set_for subjects n ≡ sixteen set_for subjects
sixteen_to-end set_for subjects n whole = rw (whole, take-length) refl

pub ruleset sets = (sixteen_to-more, sixteen_to-end)
