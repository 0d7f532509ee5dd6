-- The columns of a query without a fault: each names an attribute of the query's tables.
use Rattle.std.proofs.Common.{◌≡◌, ℕ, ◌==◌, true, false, not, ◌||◌, List, [], ◌∷◌, ◌++◌, map, flat_map, All, Option, Some, None, is_none, refl, ◌∙◌, arith}
use Rattle.std.specs.Option.{option_map_or}
use Rattle.std.specs.List.{list_any}
use Rattle.std.proofs.lemmas.Bool.{or_parts, not-false}
use Rattle.std.proofs.lemmas.Bool.Decides.{nat_tests}
use Rattle.std.proofs.lemmas.List.Elements.{All-append, All-map, All-weaker}
use Rattle.base_laws.proofs.FirstLaws.{none_left}
use Rattle.base_laws.proofs.ListLaws.{All-first, All-second, All-pieces, All-flat_map}
use Rattle.mq_base.specs.declared.ids.TableId.{TableId}
use Rattle.mq_base.specs.declared.schema.Schema.{Schema}
use Rattle.mq_base.specs.Schema.{table_of}
use Rattle.mq_base.specs.BoundQuery.{IsOfTables}
use Rattle.sql_reader.specs.Syntax.{Column, Source, Query}
use Rattle.query_bind.specs.declared.refusal.BindCode.TheVariants.{UnknownTable, UnknownAttribute, NotInTable}
use Rattle.query_bind.specs.Lookup.{attribute_named, attribute_of, is_among, condition_columns, item_columns, source_columns, having_columns, all_columns, source_conditions, all_conditions, Use, selected_use, having_use, all_uses}
use Rattle.query_bind.specs.Bound.{attribute}
use Rattle.query_bind.specs.Faults.{fault_if, is_stranger, is_elsewhere, is_outside, column_fault}
use Rattle.query_bind.proofs.BoundParts.{passed}
use Rattle.query_bind.proofs.BoundTables.{table_ids}

turned : (a b : ℕ) → (a == b) ≡ (b == a)
turned a b = grind (arith, nat_tests)

-- a table among ids is one among their numbers
among_ids : (t : ℕ) (tables : List ℕ) → list_any (λ (other : TableId). t == other.0) (table_ids tables) ≡ is_among t tables
among_ids t [] = refl
among_ids t (other ∷ rest) = rw (turned t other, among_ids t rest) refl

owned : (owner : Option ℕ) (t : ℕ) (tables : List ℕ) → owner ≡ Some t → is_among t tables ≡ true
    → list_any (λ (other : TableId). option_map_or (λ found. found == other.0) owner false) (table_ids tables) ≡ true
owned None t tables has_owner among = cc
owned (Some found) t tables has_owner among =
    let same : found ≡ t = cc in
    among_ids found tables ∙ rw same among

-- a column that passes names an attribute of the tables
pub column_used : (schema : Schema) (tables : List ℕ) (c : Column) → column_fault schema tables c ≡ None
    → IsOfTables schema (table_ids tables) (attribute schema c)
column_used schema tables c none =
    let first = none_left (fault_if (is_stranger schema tables c.table) UnknownTable c.at) _ none in
    let second = none_left (fault_if (is_none (attribute_named schema c.name)) UnknownAttribute c.at)
    (fault_if (is_outside schema tables c) NotInTable c.at) first.1 in
    by_owner (table_of schema (attribute_of schema c)) refl (passed _ NotInTable c.at second.1)
  where
    by_owner : (o : Option ℕ) → table_of schema (attribute_of schema c) ≡ o
        → option_map_or (λ t. not (is_among t tables) || is_elsewhere schema c.table t) o true ≡ false
        → IsOfTables schema (table_ids tables) (attribute schema c)
    by_owner None found inside = cc
    by_owner (Some t) found inside =
        let parts = or_parts (not (is_among t tables)) (is_elsewhere schema c.table t) inside in
        owned (table_of schema (attribute_of schema c)) t tables found (not-false (is_among t tables) parts.0)

-- what holds of each column of a query, part by part
pub record EachColumn (P : Column → Type 0) (q : Query) : Type 0 where
  pub items : All (λ i. All P (item_columns i)) q.items
  pub conds : All (λ c. All P (condition_columns c)) (all_conditions q)
  pub group : All P q.group
  pub uses : All (λ (u : Use). All P (item_columns u.item)) (all_uses q)

pub each_column : (P : Column → Type 0) (q : Query) → All P (all_columns q) → EachColumn P q
each_column P q all =
    let items = flat_map item_columns q.items in
    let sources = flat_map source_columns q.sources in
    let conds = flat_map condition_columns q.conds in
    let having = flat_map having_columns q.having in
    let rest : All P (sources ++ (conds ++ (q.group ++ having))) = All-second P items (sources ++ (conds ++ (q.group ++ having))) all in
    let late : All P (conds ++ (q.group ++ having)) = All-second P sources (conds ++ (q.group ++ having)) rest in
    let last : All P (q.group ++ having) = All-second P conds (q.group ++ having) late in
    let of_items : All (λ i. All P (item_columns i)) q.items =
    All-pieces P item_columns q.items (All-first P items (sources ++ (conds ++ (q.group ++ having))) all) in
    let of_sources : All (λ s. All P (source_columns s)) q.sources =
    All-pieces P source_columns q.sources (All-first P sources (conds ++ (q.group ++ having)) rest) in
    let of_conds : All (λ c. All P (condition_columns c)) q.conds =
    All-pieces P condition_columns q.conds (All-first P conds (q.group ++ having) late) in
    let of_having : All (λ h. All P (having_columns h)) q.having =
    All-pieces P having_columns q.having (All-second P q.group having last) in
    record {
      items = of_items;
      conds = All-append (λ c. All P (condition_columns c)) (flat_map source_conditions q.sources) q.conds
          (All-flat_map (λ c. All P (condition_columns c)) source_conditions q.sources
          (All-weaker (λ s. All P (source_columns s)) (λ (s : Source). All (λ c. All P (condition_columns c)) s.on)
          (λ s each. All-pieces P condition_columns s.on each) q.sources of_sources)) of_conds;
      group = All-first P q.group having last;
      uses = All-append (λ (u : Use). All P (item_columns u.item)) (map selected_use q.items) (map having_use q.having)
          (All-map (λ (u : Use). All P (item_columns u.item)) selected_use q.items of_items)
          (All-map (λ (u : Use). All P (item_columns u.item)) having_use q.having of_having);
    }
