-- The contents of tables, one after the other.
use Rattle.std.proofs.Common.{◌≡◌, ℕ, ◌+◌, ◌<◌, List, [], ◌∷◌, ◌++◌, length, map, take, drop, get_or, Result, Ok, Err, refl, sym, ap, ◌∙◌, subst, append_assoc}
use Rattle.std.proofs.lemmas.List.{map-append, take_more, take-append-drop}
use Rattle.mq_base.specs.declared.ids.TableId.{TableId}
use Rattle.mq_base.specs.declared.table.PlainTable.{PlainTable}
use Rattle.outside_io.specs.Outside.{ShelfState, Follows}
use Rattle.policy_base.specs.declared.policy.Policy.{Policy}
use Rattle.command_input.specs.declared.fault.FileRole.{FileRole}
use Rattle.command_input.specs.declared.fault.FileRole.TheVariants as role
use Rattle.command_input.specs.declared.load_no.LoadNo.{LoadNo}
use Rattle.command_input.specs.Files.{Lookup}
use Rattle.command_input.specs.Input.{Stop, and_then, table_input, tables_input}
use Rattle.command_input.specs.Loading.{Knows, Loads}
use Rattle.command_input.proofs.Knowing.{Knows-then, Knows-before, loads_after, loads_cut}

-- one table more
tables_more : (p : Policy) (lookup : Lookup) (xs : List TableId) (t : TableId) (contents : List PlainTable) (content : PlainTable)
    → tables_input p xs lookup ≡ Ok contents → table_input p t lookup ≡ Ok content
    → tables_input p (xs ++ t ∷ []) lookup ≡ Ok (contents ++ content ∷ [])
tables_more p lookup [] t contents content read more =
    rw more (let same : [] ≡ contents = cc in ap (λ (cs : List PlainTable). Ok (cs ++ content ∷ [])) same)
tables_more p lookup (x ∷ xs) t contents content read more =
    by_first (table_input p x lookup) refl (tables_input p xs lookup) (λ tables there. tables_more p lookup xs t tables content there more) read
  where
    by_first : (first : Result PlainTable Stop) → table_input p x lookup ≡ first → (rest : Result (List PlainTable) Stop)
        → ((tables : List PlainTable) → rest ≡ Ok tables → tables_input p (xs ++ t ∷ []) lookup ≡ Ok (tables ++ content ∷ []))
        → and_then first (λ table. and_then rest (λ tables. Ok (table ∷ tables))) ≡ Ok contents
        → tables_input p (x ∷ (xs ++ t ∷ [])) lookup ≡ Ok (contents ++ content ∷ [])
    by_first (Ok table) here (Ok tables) later is =
        let same : table ∷ tables ≡ contents = cc in
        rw (here, later tables refl) (ap (λ (cs : List PlainTable). Ok (cs ++ content ∷ [])) same)
    by_first (Ok table) here (Err stop) later is = cc
    by_first (Err stop) here rest later is = cc

-- a table stops the reading of all
tables_stop : (p : Policy) (lookup : Lookup) (xs : List TableId) (t : TableId) (ys : List TableId) (contents : List PlainTable) (stop : Stop)
    → tables_input p xs lookup ≡ Ok contents → table_input p t lookup ≡ Err stop → tables_input p (xs ++ t ∷ ys) lookup ≡ Err stop
tables_stop p lookup [] t ys contents stop read stops = rw stops refl
tables_stop p lookup (x ∷ xs) t ys contents stop read stops =
    by_first (table_input p x lookup) refl (tables_input p xs lookup) (λ tables there. tables_stop p lookup xs t ys tables stop there stops) read
  where
    by_first : (first : Result PlainTable Stop) → table_input p x lookup ≡ first → (rest : Result (List PlainTable) Stop)
        → ((tables : List PlainTable) → rest ≡ Ok tables → tables_input p (xs ++ t ∷ ys) lookup ≡ Err stop)
        → and_then first (λ table. and_then rest (λ tables. Ok (table ∷ tables))) ≡ Ok contents
        → tables_input p (x ∷ (xs ++ t ∷ ys)) lookup ≡ Err stop
    by_first (Ok table) here (Ok tables) later is = rw (here, later tables refl) refl
    by_first (Ok table) here (Err other) later is = cc
    by_first (Err other) here rest later is = cc

abbrev of_table : TableId → FileRole
of_table t = role.Table t

-- the tables so far and the next one are known
pub known_more : (before middle : ShelfState) (p : Policy) (tables : List TableId) (i : ℕ) (d : TableId) (contents : List PlainTable) (content : PlainTable)
    → i < length tables → Follows before middle
    → Knows before.held (map (λ t. role.Table t) (take i tables)) (λ lookup. tables_input p (take i tables) lookup ≡ Ok contents)
    → Knows middle.held (role.Table (get_or tables i d) ∷ []) (λ lookup. table_input p (get_or tables i d) lookup ≡ Ok content)
    → Knows before.held (map (λ t. role.Table t) (take (i + 1) tables))
    (λ lookup. tables_input p (take (i + 1) tables) lookup ≡ Ok (contents ++ content ∷ []))
known_more before middle p tables i d contents content below follows known more =
    let t = get_or tables i d in
    rw (take_more tables i d below, map-append)
    (Knows-then before.held (map of_table (take i tables)) (role.Table t ∷ [])
    (λ lookup. tables_input p (take i tables) lookup ≡ Ok contents) (λ lookup. table_input p t lookup ≡ Ok content)
    (λ lookup. tables_input p (take i tables ++ t ∷ []) lookup ≡ Ok (contents ++ content ∷ []))
    (λ lookup read next. tables_more p lookup (take i tables) t contents content read next) known
    (Knows-before before middle (role.Table t ∷ []) (λ lookup. table_input p t lookup ≡ Ok content) follows more))

-- the tables so far are those of the contents so far, and the next one is that of the next content
pub listed_more : (tables : List TableId) (i : ℕ) (d : TableId) (contents : List PlainTable) (content : PlainTable) → i < length tables
    → map (λ (table : PlainTable). table.table) contents ≡ take i tables → content.table ≡ get_or tables i d
    → map (λ (table : PlainTable). table.table) (contents ++ content ∷ []) ≡ take (i + 1) tables
listed_more tables i d contents content below listed named =
    map-append (λ (table : PlainTable). table.table) contents (content ∷ []) ∙ rw (listed, named) (sym (take_more tables i d below))

split_at : (tables : List TableId) (i : ℕ) (d : TableId) → i < length tables
    → tables ≡ take i tables ++ get_or tables i d ∷ drop (i + 1) tables
split_at tables i d below =
    sym (take-append-drop (i + 1) tables) ∙ (ap (λ (xs : List TableId). xs ++ drop (i + 1) tables) (take_more tables i d below)
    ∙ append_assoc (take i tables) (get_or tables i d ∷ []) (drop (i + 1) tables))

-- the next table stops the reading of all
pub stopped_at : (before middle after : ShelfState) (p : Policy) (tables : List TableId) (i : ℕ) (d : TableId) (contents : List PlainTable)
    (error : LoadNo) → i < length tables → Follows before middle → Follows middle after
    → Knows before.held (map (λ t. role.Table t) (take i tables)) (λ lookup. tables_input p (take i tables) lookup ≡ Ok contents)
    → Loads middle after (role.Table (get_or tables i d) ∷ []) (table_input p (get_or tables i d)) (Err error)
    → Loads {X = List PlainTable} before after (map (λ t. role.Table t) tables) (tables_input p tables) (Err error)
stopped_at before middle after p tables i d contents error below follows then known loads =
    let t = get_or tables i d in
    let rest = drop (i + 1) tables in
    let all : tables ≡ take i tables ++ t ∷ rest = split_at tables i d below in
    let cut : Loads {X = List PlainTable} before after ((map of_table (take i tables) ++ role.Table t ∷ []) ++ map of_table rest)
    (tables_input p (take i tables ++ t ∷ rest)) (Err error) =
    loads_cut before after (map of_table (take i tables) ++ role.Table t ∷ []) (map of_table rest) (tables_input p (take i tables ++ t ∷ rest)) error
    (loads_after before middle after (map of_table (take i tables)) (role.Table t ∷ [])
    (λ lookup. tables_input p (take i tables) lookup ≡ Ok contents) (table_input p t) (tables_input p (take i tables ++ t ∷ rest)) error
    (λ lookup stop read stops. tables_stop p lookup (take i tables) t rest contents stop read stops) follows then known loads) in
    let roles : (map of_table (take i tables) ++ role.Table t ∷ []) ++ map of_table rest ≡ map of_table (take i tables ++ t ∷ rest) =
    append_assoc (map of_table (take i tables)) (role.Table t ∷ []) (map of_table rest) ∙ sym (map-append of_table (take i tables) (t ∷ rest)) in
    subst (λ (ts : List TableId). Loads {X = List PlainTable} before after (map of_table ts) (tables_input p ts) (Err error)) (sym all)
    (subst (λ (files : List FileRole). Loads {X = List PlainTable} before after files (tables_input p (take i tables ++ t ∷ rest)) (Err error)) roles cut)
