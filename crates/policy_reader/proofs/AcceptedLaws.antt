-- What holds of lists without a fault, and of the policy that they stand for.
use Rattle.std.proofs.Common.{◌≡◌, ℕ, zero, suc, ◌+◌, ◌<◌, ◌≤◌, List, [], ◌∷◌, length, map, Bool, true, false, Option, Some, None, is_some, bytes_eq, refl, sym, ◌∙◌, arith}
use Rattle.std.specs.Prelude.{slice_get, position, unwrap_or, IfSome, if◌then◌else◌}
use Rattle.std.specs.Option.{option_or}
use Rattle.std.specs.Str.{IsUtf8}
use Rattle.std.proofs.lemmas.List.{length-map}
use Rattle.base_laws.specs.Sets.{has}
use Rattle.base_laws.proofs.SetLaws.{has-empty}
use Rattle.std.proofs.lemmas.Bool.Decides.{nat_tests}
use Rattle.std.proofs.lemmas.List.Quantifiers.{position-Some}
use Rattle.std.proofs.lemmas.Option.{slice_get_within}
use Rattle.base_laws.specs.Firsts.{first_at}
use Rattle.base_laws.proofs.FirstLaws.{first_at-none, none_left}
use Rattle.policy_reader.specs.declared.raw.RawTable.{RawTable}
use Rattle.policy_reader.specs.declared.raw.RawPolicy.{RawPolicy}
use Rattle.policy_reader.specs.declared.refusal.PolicyCode.{PolicyCode}
use Rattle.policy_reader.specs.declared.refusal.PolicyCode.TheVariants.{UnknownOwner, UnknownSubject}
use Rattle.policy_base.specs.Names.{is_one_of}
use Rattle.policy_reader.specs.Faults.{fault, over, limit_fault, names_fault, subject_fault, table_names_fault, owner_fault, user_fault, column_count}
use Rattle.policy_reader.specs.Rules.{rule_fault, first_fault}
use Rattle.policy_reader.specs.Outcome.{subject_id, tables_from, policy_value}
use Rattle.policy_reader.specs.Grants.{all_plain, all_sealed}
use Rattle.policy_base.specs.Accepted.{IsAccepted}
use Rattle.policy_reader.specs.Granted.{IsGranted, IsStoredByOwners}
use Rattle.policy_reader.proofs.RuleLaws.{any-position}
use Rattle.policy_reader.proofs.NameLaws.{subjects_are_text, tables_are_text, subjects_differ}
use Rattle.policy_reader.proofs.PlaceLaws.{names_from, owners_are, tables_differ, attributes_differ, attributes_are_text}
use Rattle.policy_reader.proofs.SeenLaws.{IsClean, within-plain, within-sealed, sets_apart, seen_at, owners_see_all}
use Rattle.policy_reader.proofs.SchemaLaws.{length-tables_from, length-columns_from, placed, listed, owners_from}

not_over : (limit number at : ℕ) → over limit number at ≡ None → number ≤ limit
not_over limit number at none = grind (arith, nat_tests)

-- where the limits have no fault, they are kept
kept : (subjects : List (List ℕ)) (tables : List RawTable) → limit_fault subjects tables ≡ None
    → (length subjects ≤ 16) × (length tables ≤ 8) × (column_count tables ≤ 64)
kept subjects tables none =
    let first = none_left (over 16 (length subjects) 0) (option_or (over 8 (length tables) 1) (over 64 (column_count tables) 2)) none in
    let second = none_left (over 8 (length tables) 1) (over 64 (column_count tables) 2) first.1 in
    (not_over 16 (length subjects) 0 first.0, not_over 8 (length tables) 1 second.0, not_over 64 (column_count tables) 2 second.1)

pub few_columns : (subjects : List (List ℕ)) (tables : List RawTable) → limit_fault subjects tables ≡ None → column_count tables ≤ 64
few_columns subjects tables none = (kept subjects tables none).2

pub ruleset limits = (few_columns)

-- what it means that a policy's lists have no fault, as far as the policy's value needs it
pub record IsSound (raw : RawPolicy) : Type 0 where
  pub limits : limit_fault raw.subjects raw.tables ≡ None
  pub names : names_fault raw.subjects raw.tables ≡ None
  pub owners : first_at (owner_fault raw.subjects raw.tables) 0 (length raw.tables) ≡ None
  pub user : user_fault raw.subjects raw.user ≡ None
  pub rules : first_at (rule_fault raw.subjects raw.tables raw.rules) 0 (length raw.rules) ≡ None

sound : (raw : RawPolicy) → first_fault raw ≡ None → IsSound raw
sound raw none =
    let owners = first_at (owner_fault raw.subjects raw.tables) 0 (length raw.tables) in
    let user = user_fault raw.subjects raw.user in
    let rules = first_at (rule_fault raw.subjects raw.tables raw.rules) 0 (length raw.rules) in
    let one = none_left (limit_fault raw.subjects raw.tables) (option_or (names_fault raw.subjects raw.tables) (option_or owners (option_or user rules))) none in
    let two = none_left (names_fault raw.subjects raw.tables) (option_or owners (option_or user rules)) one.1 in
    let three = none_left owners (option_or user rules) two.1 in
    let four = none_left user rules three.1 in
    record { limits = one.0; names = two.0; owners = three.0; user = four.0; rules = four.1 }

pub few_subjects : (raw : RawPolicy) → first_fault raw ≡ None → length raw.subjects ≤ 16
few_subjects raw none = (kept raw.subjects raw.tables (sound raw none).limits).0

pub few_tables : (raw : RawPolicy) → first_fault raw ≡ None → length raw.tables ≤ 8
few_tables raw none = (kept raw.subjects raw.tables (sound raw none).limits).1

pub few_columns_of : (raw : RawPolicy) → first_fault raw ≡ None → column_count raw.tables ≤ 64
few_columns_of raw none = (kept raw.subjects raw.tables (sound raw none).limits).2

-- a name that is listed has a place
id_below : (subjects : List (List ℕ)) (subject : List ℕ) → is_one_of subject subjects ≡ true
    → (subject_id subjects subject).0 < length subjects
id_below subjects subject one = by_place (position (λ name. bytes_eq name subject) subjects) refl
    (sym (any-position (λ name. bytes_eq name subject) subjects) ∙ one)
  where
    by_place : (o : Option ℕ) → position (λ name. bytes_eq name subject) subjects ≡ o → is_some o ≡ true → unwrap_or o 0 < length subjects
    by_place None none some = cc
    by_place (Some place) found some = (position-Some (λ name. bytes_eq name subject) subjects place subject found).0

-- a test that answers a fault where it fails has passed where there is none
passed : (b : Bool) (code : PolicyCode) (at item : ℕ) → (if b then None else fault code at item) ≡ None → b ≡ true
passed true code at item none = refl
passed false code at item none = cc

owned : (subjects : List (List ℕ)) (tables : List RawTable) → first_at (owner_fault subjects tables) 0 (length tables) ≡ None
    → (k : ℕ) → IfSome (slice_get tables k) (λ table. is_one_of table.owner subjects ≡ true)
owned subjects tables none k = by_table (slice_get tables k) refl
  where
    by_table : (o : Option RawTable) → slice_get tables k ≡ o → IfSome o (λ table. is_one_of table.owner subjects ≡ true)
    by_table None missing = tt
    by_table (Some table) found =
        let below : k < length tables = slice_get_within tables k table found in
        let passes = first_at-none (owner_fault subjects tables) 0 (length tables) none k (omega arith) (omega arith) in
        passed (is_one_of table.owner subjects) UnknownOwner k 0 (rw found at passes)

-- the names of lists without a fault
named : (raw : RawPolicy) → IsSound raw
    → (first_at (subject_fault raw.subjects) 0 (length raw.subjects) ≡ None) × (first_at (table_names_fault raw.tables) 0 (length raw.tables) ≡ None)
named raw good = none_left (first_at (subject_fault raw.subjects) 0 (length raw.subjects))
    (first_at (table_names_fault raw.tables) 0 (length raw.tables)) good.names

-- the policy that lists without a fault stand for
pub accepted : (raw : RawPolicy) → first_fault raw ≡ None → IsAccepted (policy_value raw)
accepted raw none =
    let good = sound raw none in
    let limits = kept raw.subjects raw.tables good.limits in
    let names = named raw good in
    let clean : IsClean raw.subjects raw.tables raw.rules = record { names_pass = names.1; rules_pass = good.rules } in
    let user = id_below raw.subjects raw.user (passed (is_one_of raw.user raw.subjects) UnknownSubject 0 1 good.user) in
    let each_owned = owned raw.subjects raw.tables good.owners in
    let columns = length-columns_from 0 raw.tables in
    record {
      some_subject = omega arith;
      few_subjects = limits.0;
      user_listed = user;
      schema = record {
        few_tables = rw length-tables_from limits.1;
        few_attributes = rw columns limits.2;
        placed = λ a. rw length-tables_from (placed raw.tables a);
        listed = listed raw.subjects raw.tables;
      };
      owners_listed = owners_from raw.subjects 0 raw.tables (id_below raw.subjects) each_owned;
      subjects_are_text = subjects_are_text raw.subjects names.0;
      tables_are_text = texts_from raw.subjects 0 raw.tables (tables_are_text raw.tables names.1);
      attributes_are_text = attributes_are_text raw.tables names.1;
      subjects_differ = subjects_differ raw.subjects names.0;
      tables_differ = rw (names_from raw.subjects 0 raw.tables) (tables_differ raw.tables names.1);
      attributes_differ = attributes_differ raw.tables names.1;
      plain_within = λ s a inside. rw columns (within-plain raw.tables raw.rules raw.subjects s a inside);
      sealed_within = λ s a inside. rw columns (within-sealed raw.tables raw.rules raw.subjects s a inside);
      apart = λ s a inside. sets_apart raw.subjects raw.tables raw.rules clean s a inside;
      owners_see_all = owners_see_all raw.subjects raw.tables raw.rules each_owned;
      store_each = rw (length-map, length-tables_from) refl;
      stores_listed = stores_from raw.subjects raw.tables (id_below raw.subjects) each_owned;
      rest_within = λ a inside. let out : has 0 a ≡ false = has-empty a in cc;
    }
  where
    -- each table's name, and each table's store, where each is a subject
    texts_from : (subjects : List (List ℕ)) (first : ℕ) (tables : List RawTable)
        → ((k : ℕ) → IfSome (slice_get tables k) (λ table. IsUtf8 table.name)) → (t : ℕ)
        → IfSome (slice_get (tables_from subjects first tables) t) (λ info. IsUtf8 info.name)
    texts_from subjects first [] text t = tt
    texts_from subjects first (table ∷ others) text zero = text 0
    texts_from subjects first (table ∷ others) text (suc t) =
        texts_from subjects (first + length table.columns) others (λ k. text (suc k)) t

    stores_from : (subjects : List (List ℕ)) (tables : List RawTable)
        → ((subject : List ℕ) → is_one_of subject subjects ≡ true → (subject_id subjects subject).0 < length subjects)
        → ((k : ℕ) → IfSome (slice_get tables k) (λ table. is_one_of table.owner subjects ≡ true)) → (t : ℕ)
        → IfSome (slice_get (map (λ (table : RawTable). subject_id subjects table.owner) tables) t) (λ store. store.0 < length subjects)
    stores_from subjects [] below owned t = tt
    stores_from subjects (table ∷ others) below owned zero = below table.owner (owned 0)
    stores_from subjects (table ∷ others) below owned (suc t) = stores_from subjects others below (λ k. owned (suc k)) t

-- its sets are the grants
pub granted : (raw : RawPolicy) → IsGranted raw (policy_value raw)
granted raw = record { plain = seen_at (all_plain raw.tables raw.rules) raw.subjects; sealed = seen_at (all_sealed raw.tables raw.rules) raw.subjects }

-- its tables are stored by their owners
pub stored : (raw : RawPolicy) → IsStoredByOwners (policy_value raw)
stored raw = record { stores = sym (owners_are raw.subjects 0 raw.tables); rest = refl; ceilings = refl }

pub ruleset accepts = (accepted, granted, stored, few_subjects, few_tables, few_columns_of)
