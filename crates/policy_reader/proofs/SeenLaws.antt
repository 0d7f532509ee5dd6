-- What a subject may see, of lists without a fault: attributes of the policy, none both plain and sealed, and for the
-- owner of a table all of it plain.
use Rattle.std.proofs.Common.{◌≡◌, ℕ, zero, suc, ◌+◌, ◌-◌, ◌^◌, ◌<◌, ◌≤◌, Bool, true, false, not, List, [], ◌∷◌, ◌++◌, length, take, get_or, find, map, replicate, Option, Some, None, is_some, refl, sym, ◌∙◌, ap, arith, bytes_eq, ◌⊎◌, inl, inr, zero-add}
use Rattle.std.specs.Prelude.{slice_get, position, option_map, IfSome, if◌then◌else◌}
use Rattle.std.specs.List.{list_any}
use Rattle.std.specs.Option.{option_or, option_map_or}
use Rattle.std.proofs.lemmas.Bool.{and_parts, cases_order}
use Rattle.std.proofs.lemmas.List.Quantifiers.{position-Some}
use Rattle.std.proofs.lemmas.Option.{slice_get_within, slice_get-get_or}
use Rattle.std.proofs.lemmas.Slice.Eq.{bytes_eq-Decides}
use Rattle.base_laws.specs.Firsts.{first_at}
use Rattle.base_laws.specs.Sets.{has, IsWithin}
use Rattle.base_laws.proofs.FirstLaws.{first_at-none, none_left}
use Rattle.base_laws.proofs.SetLaws.{has-single_same, has-empty, has-union_to}
use Rattle.base_laws.proofs.PlaceLaws.{none_at, found_place, found_first}
use Rattle.base_laws.proofs.UnionLaws.{no_member, only_member, member_of_union}
use Rattle.mq_base.specs.declared.refusal.Refusal.{Refusal}
use Rattle.policy_reader.specs.declared.grants.Grant.{Grant}
use Rattle.policy_reader.specs.declared.raw.RawColumn.{RawColumn}
use Rattle.policy_reader.specs.declared.raw.RawTable.{RawTable}
use Rattle.policy_reader.specs.declared.raw.RawRule.{RawRule}
use Rattle.policy_reader.specs.declared.refusal.PolicyCode.{PolicyCode}
use Rattle.policy_reader.specs.declared.refusal.PolicyCode.TheVariants.{UnknownSubject, RuleForOwner, RepeatedRule, Overlap}
use Rattle.policy_base.specs.Accepted.{set_at}
use Rattle.policy_reader.specs.Faults.{fault, is_column, is_table, column_count, table_names_fault}
use Rattle.policy_reader.specs.Grants.{first_id, ids, single, named, named_at, listed, said, everything, nothing, rule_for, table_grant, grant, all_plain, all_sealed, set_of}
use Rattle.policy_base.specs.Names.{is_one_of}
use Rattle.policy_reader.specs.Names.{any_subject}
use Rattle.policy_reader.specs.Outcome.{subject_id, tables_from, table_info, sixteen}
use Rattle.policy_reader.specs.Rules.{is_rule, may_speak_of, unknown_fault, overlap_fault, sealed_string_fault, plain_fault, sealed_fault, strings_fault, rule_fault_for, rule_fault_in, rule_fault}
use Rattle.policy_reader.proofs.NameLaws.{table_passes}
use Rattle.policy_reader.proofs.PlaceLaws.{run_before, run_within, tables_from-at}
use Rattle.policy_reader.proofs.RuleLaws.{any-position, a_column}

-- the members of a run of ids
pub ids-members : (first n a : ℕ) → has (ids first n) a ≡ true → (first ≤ a) × (a < first + n)
ids-members first n a inside = by_place (member_of_union (λ place. 2 ^ (first + place)) n a inside)
  where
    by_place : (k : ℕ) × ((k < n) × (has (2 ^ (first + k)) a ≡ true)) → (first ≤ a) × (a < first + n)
    by_place (k, (below, here)) = let same : a ≡ first + k = only_member (first + k) a here in (omega arith, omega arith)

pub ids-from : (first n a : ℕ) → first ≤ a → a < first + n → has (ids first n) a ≡ true
ids-from first n a low high =
    let place : first + (a - first) ≡ a = omega arith in
    has-union_to (λ place. 2 ^ (first + place)) n a (a - first) (omega arith) (rw place (has-single_same a))

-- the string of a list and the column that it names, of a member of the list's set
record IsNamed (first : ℕ) (columns : List RawColumn) (names : List (List ℕ)) (a : ℕ) : Type 0 where
  pub k : ℕ
  pub name : List ℕ
  pub place : ℕ
  pub name_there : slice_get names k ≡ Some name
  pub found : position (is_column name) columns ≡ Some place
  pub id : a ≡ first + place

listed-member : (first : ℕ) (columns : List RawColumn) (names : List (List ℕ)) (a : ℕ) → has (listed first columns names) a ≡ true
    → IsNamed first columns names a
listed-member first columns names a inside = by_string (member_of_union (named_at first columns names) (length names) a inside)
  where
    by_column : (k : ℕ) (name : List ℕ) → slice_get names k ≡ Some name → (o : Option ℕ) → position (is_column name) columns ≡ o
        → has (single first o) a ≡ true → IsNamed first columns names a
    by_column k name there None found here = no_member a here
    by_column k name there (Some place) found here =
        record { k = k; name = name; place = place; name_there = there; found = found; id = only_member (first + place) a here }

    by_name : (k : ℕ) (o : Option (List ℕ)) → slice_get names k ≡ o → has (option_map_or (named first columns) o 0) a ≡ true
        → IsNamed first columns names a
    by_name k None there here = no_member a here
    by_name k (Some name) there here = by_column k name there (position (is_column name) columns) refl here

    by_string : (k : ℕ) × ((k < length names) × (has (named_at first columns names k) a ≡ true)) → IsNamed first columns names a
    by_string (k, (below, here)) = by_name k (slice_get names k) refl here

-- the column that a name names has that name
column_named : (columns : List RawColumn) (name : List ℕ) (place : ℕ) (d : RawColumn) → position (is_column name) columns ≡ Some place
    → (get_or columns place d).name ≡ name
column_named columns name place d found =
    (bytes_eq-Decides (get_or columns place d).name name).0 ((position-Some (is_column name) columns place d found).1)

-- the strings of a rule without a fault give sets without a common member
if_passed : (b : Bool) (code : PolicyCode) (at item : ℕ) (rest : Option Refusal) → (if b then fault code at item else rest) ≡ None
    → (b ≡ false) × (rest ≡ None)
if_passed true code at item rest none = cc
if_passed false code at item rest none = (refl, none)

not_in_plain : (columns : List RawColumn) (plain sealed : List (List ℕ)) (at k : ℕ) (name : List ℕ) → slice_get sealed k ≡ Some name
    → sealed_fault columns plain sealed at k ≡ None → is_one_of name plain ≡ false
not_in_plain columns plain sealed at k name there none =
    let here : sealed_string_fault columns plain at k name ≡ None = rw there at none in
    (if_passed (is_one_of name plain) Overlap at (length plain + k) None
    (none_left (unknown_fault columns at (length plain + k) name) (overlap_fault plain at (length plain + k) name) here).1).0

strings_apart : (columns : List RawColumn) (plain sealed : List (List ℕ)) (at first a : ℕ) → strings_fault columns plain sealed at ≡ None
    → has (listed first columns plain) a ≡ true → has (listed first columns sealed) a ≡ true → ⊥
strings_apart columns plain sealed at first a none in_plain in_sealed =
    apart (listed-member first columns plain a in_plain) (listed-member first columns sealed a in_sealed)
  where
    passes : (k : ℕ) → k < length sealed → sealed_fault columns plain sealed at k ≡ None
    passes k below = first_at-none (sealed_fault columns plain sealed at) 0 (length sealed)
        ((none_left (first_at (plain_fault columns plain at) 0 (length plain)) (first_at (sealed_fault columns plain sealed at) 0 (length sealed)) none).1)
        k (omega arith) (omega arith)

    apart : IsNamed first columns plain a → IsNamed first columns sealed a → ⊥
    apart p s =
        let p_id : a ≡ first + p.place = p.id in
        let s_id : a ≡ first + s.place = s.id in
        let same_place : p.place ≡ s.place = omega arith in
        let d = a_column p.name in
        let p_named : (get_or columns p.place d).name ≡ p.name = column_named columns p.name p.place d p.found in
        let s_named : (get_or columns s.place d).name ≡ s.name = column_named columns s.name s.place d s.found in
        let same : p.name ≡ s.name = sym p_named ∙ ap (λ place. (get_or columns place d).name) same_place ∙ s_named in
        let equal : bytes_eq p.name s.name ≡ true = (bytes_eq-Decides p.name s.name).1 same in
        let out : is_one_of s.name plain ≡ false = not_in_plain columns plain sealed at s.k s.name s.name_there
        (passes s.k (slice_get_within sealed s.k s.name s.name_there)) in
        let unequal : bytes_eq p.name s.name ≡ false = none_at (λ name. bytes_eq name s.name) plain p.k p.name p.name_there out in
        cc

-- the strings of a rule of the policy, on the table that it is for
rule_passes : (subjects : List (List ℕ)) (earlier : List RawRule) (at : ℕ) (rule : RawRule) (table : RawTable)
    → rule_fault_for subjects earlier at rule table ≡ None → strings_fault table.columns rule.plain rule.sealed at ≡ None
rule_passes subjects earlier at rule table none =
    let strings = strings_fault table.columns rule.plain rule.sealed at in
    let repeated = if list_any (is_rule rule.table rule.subject) earlier then fault RepeatedRule at 0 else strings in
    let owned = if bytes_eq rule.subject table.owner then fault RuleForOwner at 0 else repeated in
    let one = if_passed (not (may_speak_of subjects rule.subject)) UnknownSubject at 0 owned none in
    let two = if_passed (bytes_eq rule.subject table.owner) RuleForOwner at 0 repeated one.1 in
    (if_passed (list_any (is_rule rule.table rule.subject) earlier) RepeatedRule at 0 strings two.1).1

rule_at : (subjects : List (List ℕ)) (tables : List RawTable) (rules : List RawRule) (at : ℕ) (rule : RawRule) (table : RawTable)
    → slice_get rules at ≡ Some rule → find (is_table rule.table) tables ≡ Some table → rule_fault subjects tables rules at ≡ None
    → rule_fault_for subjects (take at rules) at rule table ≡ None
rule_at subjects tables rules at rule table there found none =
    let here : rule_fault_in subjects (take at rules) at rule (find (is_table rule.table) tables) ≡ None = rw there at none in
    rw found at here

-- what it means that names and rules have no fault
pub record IsClean (subjects : List (List ℕ)) (tables : List RawTable) (rules : List RawRule) : Type 0 where
  pub names_pass : first_at (table_names_fault tables) 0 (length tables) ≡ None
  pub rules_pass : first_at (rule_fault subjects tables rules) 0 (length rules) ≡ None

-- a rule that was found for a table and a subject
found_apart : (subjects : List (List ℕ)) (tables : List RawTable) (rules : List RawRule) → IsClean subjects tables rules
    → (t : ℕ) (table : RawTable) → slice_get tables t ≡ Some table → (subject : List ℕ) (rule : RawRule) → rule_for table subject rules ≡ Some rule
    → (first a : ℕ) → has (listed first table.columns rule.plain) a ≡ true → has (listed first table.columns rule.sealed) a ≡ true → ⊥
found_apart subjects tables rules clean t table there subject rule found first a =
    at (found_place (is_rule table.name subject) rules rule found)
  where
    at : (k : ℕ) × ((slice_get rules k ≡ Some rule) × (is_rule table.name subject rule ≡ true))
        → has (listed first table.columns rule.plain) a ≡ true → has (listed first table.columns rule.sealed) a ≡ true → ⊥
    at (k, (rule_there, for_table)) =
        let equal : bytes_eq rule.table table.name ≡ true = (and_parts (bytes_eq rule.table table.name) (bytes_eq rule.subject subject) for_table).0 in
        let same : rule.table ≡ table.name = (bytes_eq-Decides rule.table table.name).0 equal in
        let itself : is_table table.name table ≡ true = (bytes_eq-Decides table.name table.name).1 refl in
        let first_one = found_first (is_table table.name) tables t table there itself (table_passes tables t table clean.names_pass there).1 in
        let found_table : find (is_table rule.table) tables ≡ Some table = rw same first_one in
        let below : k < length rules = slice_get_within rules k rule rule_there in
        let none = first_at-none (rule_fault subjects tables rules) 0 (length rules) clean.rules_pass k (omega arith) (omega arith) in
        let passes = rule_passes subjects (take k rules) k rule table (rule_at subjects tables rules k rule table rule_there found_table none) in
        strings_apart table.columns rule.plain rule.sealed k first a passes

-- the two sets of a grant have no common member
abbrev IsApart : Grant → ℕ → Type 0
IsApart given a = has given.plain.0 a ≡ true → has given.sealed.0 a ≡ true → ⊥

said_apart : (first a : ℕ) (table : RawTable) (o : Option RawRule)
    → ((rule : RawRule) → o ≡ Some rule → has (listed first table.columns rule.plain) a ≡ true → has (listed first table.columns rule.sealed) a ≡ true → ⊥)
    → IsApart (said first table o) a
said_apart first a table None each = λ in_plain in_sealed. no_member a in_plain
said_apart first a table (Some rule) each = each rule refl

table_apart : (subjects : List (List ℕ)) (tables : List RawTable) (rules : List RawRule) → IsClean subjects tables rules
    → (t : ℕ) (table : RawTable) → slice_get tables t ≡ Some table → (subject : List ℕ) (first a : ℕ)
    → IsApart (table_grant rules subject first table) a
table_apart subjects tables rules clean t table there subject first a = by_owner (bytes_eq subject table.owner)
  where
    one_of : (o : Option RawRule) → rule_for table subject rules ≡ o → (rule : RawRule) → option_or o (rule_for table any_subject rules) ≡ Some rule
        → has (listed first table.columns rule.plain) a ≡ true → has (listed first table.columns rule.sealed) a ≡ true → ⊥
    one_of None own rule found = found_apart subjects tables rules clean t table there any_subject rule found first a
    one_of (Some given) own rule found =
        found_apart subjects tables rules clean t table there subject rule (own ∙ found) first a

    by_owner : (b : Bool) → IsApart (if b then everything first table
        else said first table (option_or (rule_for table subject rules) (rule_for table any_subject rules))) a
    by_owner true = λ in_plain in_sealed. no_member a in_sealed
    by_owner false = said_apart first a table (option_or (rule_for table subject rules) (rule_for table any_subject rules))
        (one_of (rule_for table subject rules) refl)

-- each member of a set stands from `low` on, and below `high`
abbrev Between : ℕ → ℕ → ℕ → Type 0
Between low high set = (a : ℕ) → has set a ≡ true → (low ≤ a) × (a < high)

between-empty : (low high : ℕ) → Between low high 0
between-empty low high a inside = no_member a inside

between-listed : (first : ℕ) (columns : List RawColumn) (names : List (List ℕ)) → Between first (first + length columns) (listed first columns names)
between-listed first columns names a inside = within (listed-member first columns names a inside)
  where
    within : IsNamed first columns names a → (first ≤ a) × (a < first + length columns)
    within named =
        let id : a ≡ first + named.place = named.id in
        let below : named.place < length columns = (position-Some (is_column named.name) columns named.place (a_column named.name) named.found).0 in
        (omega arith, omega arith)

-- both sets of a grant
abbrev GrantBetween : ℕ → ℕ → Grant → Type 0
GrantBetween low high given = Between low high given.plain.0 × Between low high given.sealed.0

between-said : (first : ℕ) (table : RawTable) (o : Option RawRule) → GrantBetween first (first + length table.columns) (said first table o)
between-said first table None = (between-empty first (first + length table.columns), between-empty first (first + length table.columns))
between-said first table (Some rule) = (between-listed first table.columns rule.plain, between-listed first table.columns rule.sealed)

between-table : (rules : List RawRule) (subject : List ℕ) (first : ℕ) (table : RawTable)
    → GrantBetween first (first + length table.columns) (table_grant rules subject first table)
between-table rules subject first table = by_owner (bytes_eq subject table.owner)
  where
    by_owner : (b : Bool) → GrantBetween first (first + length table.columns) (if b then everything first table
        else said first table (option_or (rule_for table subject rules) (rule_for table any_subject rules)))
    by_owner true = (ids-members first (length table.columns), between-empty first (first + length table.columns))
    by_owner false = between-said first table (option_or (rule_for table subject rules) (rule_for table any_subject rules))

-- the table on which a grant has a member, and the run of ids in which it stands
record IsGrantedOn (tables : List RawTable) (t a : ℕ) : Type 0 where
  pub table : RawTable
  pub there : slice_get tables t ≡ Some table
  pub low : first_id tables t ≤ a
  pub high : a < first_id tables t + length table.columns

granted_on : (tables : List RawTable) (rules : List RawRule) (subject : List ℕ) (t a : ℕ)
    → (has (grant tables rules subject t).plain.0 a ≡ true → IsGrantedOn tables t a)
    × (has (grant tables rules subject t).sealed.0 a ≡ true → IsGrantedOn tables t a)
granted_on tables rules subject t a = by_table (slice_get tables t) refl
  where
    by_table : (o : Option RawTable) → slice_get tables t ≡ o
        → (has (option_map_or (table_grant rules subject (first_id tables t)) o nothing).plain.0 a ≡ true → IsGrantedOn tables t a)
        × (has (option_map_or (table_grant rules subject (first_id tables t)) o nothing).sealed.0 a ≡ true → IsGrantedOn tables t a)
    by_table None there = (λ inside. no_member a inside, λ inside. no_member a inside)
    by_table (Some table) there =
        let within = between-table rules subject (first_id tables t) table in (
          (λ inside. let found = within.0 a inside in record { table = table; there = there; low = found.0; high = found.1 }),
          (λ inside. let found = within.1 a inside in record { table = table; there = there; low = found.0; high = found.1 }),
        )

-- two tables on which grants have one member are one
one_table : (tables : List RawTable) (t u a : ℕ) → IsGrantedOn tables t a → IsGrantedOn tables u a → t ≡ u
one_table tables t u a one two = by_order (cases_order t u)
  where
    one_low : first_id tables t ≤ a
    one_low = one.low

    one_high : a < first_id tables t + length one.table.columns
    one_high = one.high

    two_low : first_id tables u ≤ a
    two_low = two.low

    two_high : a < first_id tables u + length two.table.columns
    two_high = two.high

    by_order : (t ≡ u) ⊎ ((t < u) ⊎ (u < t)) → t ≡ u
    by_order (inl same) = same
    by_order (inr (inl before)) =
        let ended : first_id tables t + length one.table.columns ≤ first_id tables u = run_before tables t u one.table one.there before in
        absurd (omega arith)
    by_order (inr (inr after)) =
        let ended : first_id tables u + length two.table.columns ≤ first_id tables t = run_before tables u t two.table two.there after in
        absurd (omega arith)

-- the members of all that a subject may see
within_all : (tables : List RawTable) (rules : List RawRule) (subject : List ℕ) (a : ℕ)
    → (has (all_plain tables rules subject) a ≡ true → a < column_count tables) × (has (all_sealed tables rules subject) a ≡ true → a < column_count tables)
within_all tables rules subject a = (
  (λ inside. on_plain (member_of_union (λ t. (grant tables rules subject t).plain.0) (length tables) a inside)),
  (λ inside. on_sealed (member_of_union (λ t. (grant tables rules subject t).sealed.0) (length tables) a inside)),
)
  where
    below : (t : ℕ) → IsGrantedOn tables t a → a < column_count tables
    below t on =
        let ends : first_id tables t + length on.table.columns ≤ column_count tables = run_within tables t on.table on.there in
        let high : a < first_id tables t + length on.table.columns = on.high in
        omega arith

    on_plain : (t : ℕ) × ((t < length tables) × (has (grant tables rules subject t).plain.0 a ≡ true)) → a < column_count tables
    on_plain (t, (there, inside)) = below t ((granted_on tables rules subject t a).0 inside)

    on_sealed : (t : ℕ) × ((t < length tables) × (has (grant tables rules subject t).sealed.0 a ≡ true)) → a < column_count tables
    on_sealed (t, (there, inside)) = below t ((granted_on tables rules subject t a).1 inside)

all_apart : (subjects : List (List ℕ)) (tables : List RawTable) (rules : List RawRule) → IsClean subjects tables rules
    → (subject : List ℕ) (a : ℕ) → has (all_plain tables rules subject) a ≡ true → has (all_sealed tables rules subject) a ≡ false
all_apart subjects tables rules clean subject a in_plain = by_test (has (all_sealed tables rules subject) a) refl
  where
    in_table : (t : ℕ) (o : Option RawTable) → slice_get tables t ≡ o
        → IsApart (option_map_or (table_grant rules subject (first_id tables t)) o nothing) a
    in_table t None there = λ in_plain in_sealed. no_member a in_plain
    in_table t (Some table) there = table_apart subjects tables rules clean t table there subject (first_id tables t) a

    on_both : (t : ℕ) × ((t < length tables) × (has (grant tables rules subject t).plain.0 a ≡ true))
        → (u : ℕ) × ((u < length tables) × (has (grant tables rules subject u).sealed.0 a ≡ true)) → ⊥
    on_both (t, (t_there, plain_there)) (u, (u_there, sealed_there)) =
        let same : t ≡ u = one_table tables t u a ((granted_on tables rules subject t a).0 plain_there) ((granted_on tables rules subject u a).1 sealed_there) in
        in_table u (slice_get tables u) refl (rw same at plain_there) sealed_there

    never : has (all_sealed tables rules subject) a ≡ true → ⊥
    never in_sealed = on_both
        (member_of_union (λ t. (grant tables rules subject t).plain.0) (length tables) a in_plain)
        (member_of_union (λ t. (grant tables rules subject t).sealed.0) (length tables) a in_sealed)

    by_test : (b : Bool) → has (all_sealed tables rules subject) a ≡ b → has (all_sealed tables rules subject) a ≡ false
    by_test true in_sealed = absurd (never in_sealed)
    by_test false out = out

-- the set of the subject at a place: what it may see, and nothing past the last subject
empties : (n s : ℕ) → set_at (replicate n (set_of 0)) s ≡ 0
empties zero s = refl
empties (suc n) zero = refl
empties (suc n) (suc s) = empties n s

sets_at : (set_for : List ℕ → ℕ) (subjects : List (List ℕ)) (n s : ℕ)
    → set_at (map (λ subject. set_of (set_for subject)) subjects ++ replicate n (set_of 0)) s ≡ option_map_or set_for (slice_get subjects s) 0
sets_at set_for [] n s = empties n s
sets_at set_for (subject ∷ others) n zero = refl
sets_at set_for (subject ∷ others) n (suc s) = sets_at set_for others n s

pub seen_at : (set_for : List ℕ → ℕ) (subjects : List (List ℕ)) (s : ℕ)
    → set_at (sixteen set_for subjects) s ≡ option_map_or set_for (slice_get subjects s) 0
seen_at set_for subjects s = sets_at set_for subjects (16 - length subjects) s

-- what each subject may see are attributes of the policy
pub within-plain : (tables : List RawTable) (rules : List RawRule) (subjects : List (List ℕ)) (s a : ℕ)
    → has (set_at (sixteen (all_plain tables rules) subjects) s) a ≡ true → a < column_count tables
within-plain tables rules subjects s a inside = by_subject (slice_get subjects s) (rw seen_at at inside)
  where
    by_subject : (o : Option (List ℕ)) → has (option_map_or (all_plain tables rules) o 0) a ≡ true → a < column_count tables
    by_subject None here = no_member a here
    by_subject (Some subject) here = (within_all tables rules subject a).0 here

pub within-sealed : (tables : List RawTable) (rules : List RawRule) (subjects : List (List ℕ)) (s a : ℕ)
    → has (set_at (sixteen (all_sealed tables rules) subjects) s) a ≡ true → a < column_count tables
within-sealed tables rules subjects s a inside = by_subject (slice_get subjects s) (rw seen_at at inside)
  where
    by_subject : (o : Option (List ℕ)) → has (option_map_or (all_sealed tables rules) o 0) a ≡ true → a < column_count tables
    by_subject None here = no_member a here
    by_subject (Some subject) here = (within_all tables rules subject a).1 here

-- and none both plain and sealed
pub sets_apart : (subjects : List (List ℕ)) (tables : List RawTable) (rules : List RawRule) → IsClean subjects tables rules
    → (s a : ℕ) → has (set_at (sixteen (all_plain tables rules) subjects) s) a ≡ true
    → has (set_at (sixteen (all_sealed tables rules) subjects) s) a ≡ false
sets_apart subjects tables rules clean s a in_plain =
    rw (seen_at (all_sealed tables rules) subjects s) (by_subject (slice_get subjects s) (rw seen_at at in_plain))
  where
    by_subject : (o : Option (List ℕ)) → has (option_map_or (all_plain tables rules) o 0) a ≡ true
        → has (option_map_or (all_sealed tables rules) o 0) a ≡ false
    by_subject None here = has-empty a
    by_subject (Some subject) here = all_apart subjects tables rules clean subject a here

-- the subject at the id of an owner has the owner's name
record IsOwner (subjects : List (List ℕ)) (owner : List ℕ) : Type 0 where
  pub name : List ℕ
  pub there : slice_get subjects (subject_id subjects owner).0 ≡ Some name
  pub equal : bytes_eq name owner ≡ true

owner_of : (subjects : List (List ℕ)) (owner : List ℕ) → is_one_of owner subjects ≡ true → IsOwner subjects owner
owner_of subjects owner one = by_place (position (λ name. bytes_eq name owner) subjects) refl
    (sym (any-position (λ name. bytes_eq name owner) subjects) ∙ one)
  where
    by_place : (o : Option ℕ) → position (λ name. bytes_eq name owner) subjects ≡ o → is_some o ≡ true → IsOwner subjects owner
    by_place None none some = cc
    by_place (Some place) found some =
        let at = position-Some (λ name. bytes_eq name owner) subjects place owner found in
        record {
          name = get_or subjects place owner;
          there = rw found (slice_get-get_or subjects place owner at.0);
          equal = at.1;
        }

-- an owner sees all of its table plain
pub owners_see_all : (subjects : List (List ℕ)) (tables : List RawTable) (rules : List RawRule)
    → ((k : ℕ) → IfSome (slice_get tables k) (λ table. is_one_of table.owner subjects ≡ true)) → (t : ℕ)
    → IfSome (slice_get (tables_from subjects 0 tables) t) (λ info. IsWithin info.attrs.0 (set_at (sixteen (all_plain tables rules) subjects) info.owner.0))
owners_see_all subjects tables rules owned t = rw tables_from-at (by_table (slice_get tables t) refl (owned t))
  where
    sees : (table : RawTable) → slice_get tables t ≡ Some table → IsOwner subjects table.owner → (a : ℕ)
        → has (ids (0 + first_id tables t) (length table.columns)) a ≡ true
        → has (set_at (sixteen (all_plain tables rules) subjects) (subject_id subjects table.owner).0) a ≡ true
    sees table there owner a inside =
        let below : t < length tables = slice_get_within tables t table there in
        let run : has (ids (first_id tables t) (length table.columns)) a ≡ true = rw zero-add at inside in
        let whole : has (grant tables rules owner.name t).plain.0 a ≡ true = rw (there, owner.equal) run in
        rw (seen_at (all_plain tables rules) subjects (subject_id subjects table.owner).0, owner.there)
        (has-union_to (λ k. (grant tables rules owner.name k).plain.0) (length tables) a t below whole)

    by_table : (o : Option RawTable) → slice_get tables t ≡ o → IfSome o (λ table. is_one_of table.owner subjects ≡ true)
        → IfSome (option_map (λ table. table_info subjects (0 + first_id tables t) table) o)
        (λ info. IsWithin info.attrs.0 (set_at (sixteen (all_plain tables rules) subjects) info.owner.0))
    by_table None there none = tt
    by_table (Some table) there one = record { member = sees table there (owner_of subjects table.owner one) }
