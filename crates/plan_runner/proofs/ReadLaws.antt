-- The rows of the root's table, in which nothing is sealed, read through the select list, are those that the query asks for.
use Rattle.std.proofs.Common.{◌≡◌, ℕ, zero, suc, ◌^◌, ◌<◌, List, [], ◌∷◌, map, get_or, All, Option, Some, None, option_map, slice_get, refl, sym, ◌∙◌, ap, subst, arith}
use Rattle.std.specs.Prelude.{filter_map, if◌then◌else◌, option_and_then}
use Rattle.std.specs.List.{AllByRecursion, cons_option, range_with_len}
use Rattle.std.proofs.lemmas.List.Elements.{recursion_from_All}
use Rattle.std.proofs.lemmas.Option.{slice_get-map}
use Rattle.base_laws.specs.Sets.{has}
use Rattle.base_laws.proofs.FilterLaws.{map_agree, map_map}
use Rattle.base_laws.proofs.SetLaws.{has-empty}
use Rattle.mq_base.specs.declared.query.Item.{Item}
use Rattle.mq_base.specs.declared.query.Item.TheVariants as item
use Rattle.mq_base.specs.declared.table.Scheme.TheVariants as scheme
use Rattle.mq_base.specs.declared.value.Value.{Value}
use Rattle.mq_base.specs.Small.{IsSmallItem}
use Rattle.plan_algebra.specs.Meaning.{node_rows}
use Rattle.extended_plan.specs.declared.state.State.{State}
use Rattle.extended_plan.specs.Setting.{Setting, root}
use Rattle.extended_plan.specs.Term as term
use Rattle.key_clusters.specs.Keys.{scheme_at}
use Rattle.provider_engine.proofs.DecodeLaws.{runs_decode}
use Rattle.provider_engine.specs.declared.held.Held.{Held}
use Rattle.column_table.specs.Cells.{Plain, Seals}
use Rattle.column_table.specs.Columns.{Shown, column_at, shown, shown_columns}
use Rattle.provider_engine.specs.Decoding.{IsRun}
use Rattle.provider_engine.specs.Held.{column_of, node_of, state_of, table_of}
use Rattle.provider_engine.specs.OfJob.{IsColumnAt, IsOfJob}
use Rattle.provider_engine.specs.Opening.{seals_of}
use Rattle.provider_engine.specs.Run.{decoded, decoded_cell}
use Rattle.provider_engine.specs.Wide.{NoneIsWide, tree_of_node}
use Rattle.sealed_column.specs.declared.column.AnyColumn.{AnyColumn}
use Rattle.sealed_column.specs.declared.column.AnyColumn.TheVariants as column
use Rattle.row_algebra.specs.Contents.{Contents}
use Rattle.row_algebra.specs.Select.{item_of, selected}
use Rattle.row_algebra.specs.Values.{value_count, value_tests}
use Rattle.plan_runner.proofs.ShownLaws.{rows_read}
use Rattle.plan_runner.specs.inside.Shown.{plain_item, plain_items, plain_value, row_of}
use Rattle.plan_runner.specs.inside.UnderWay.{IsRanTo}

-- ---- a column that is not sealed

-- the cells of a column, where there is one, are plain
abbrev IsPlainColumn : Option Shown → Type 0
IsPlainColumn None = Unit {0}
IsPlainColumn (Some c) = (values : List Value) × (c.cells ≡ map Plain values)

unsealed : (o : Option AnyColumn) → ((c : Shown) → option_map shown o ≡ Some c → c.scheme ≡ None) → IsPlainColumn (option_map shown o)
unsealed None none = tt
unsealed (Some (column.Clear c)) none = (c.cells, refl)
unsealed (Some (column.Rnd c)) none =
    let h : Some scheme.Rnd ≡ None = none (shown (column.Rnd c)) refl in cc
unsealed (Some (column.Det c)) none =
    let h : Some scheme.Det ≡ None = none (shown (column.Det c)) refl in cc
unsealed (Some (column.Ope c)) none =
    let h : Some scheme.Ope ≡ None = none (shown (column.Ope c)) refl in cc

shown_at : (columns : List (Option AnyColumn)) (a : ℕ) → column_at (shown_columns columns) a ≡ option_map shown (get_or columns a None)
shown_at [] a = refl
shown_at (c ∷ columns) zero = refl
shown_at (c ∷ columns) (suc a) = shown_at columns a

-- a column of a table in which nothing is encrypted
scheme_none : (s : Setting) (held : Held) → (state_of held).view.enc.0 ≡ 0 → (a : ℕ) (c : Shown)
    → IsColumnAt s (node_of held).0 (state_of held).view a (Some c) → c.scheme ≡ None
scheme_none s held opened a c is =
    is.sealed
    ∙ ap (λ set. if has set a then Some (scheme_at s.basis.clusters a) else None) opened
    ∙ ap (λ b. if b then Some (scheme_at s.basis.clusters a) else None) (has-empty a)

plain_column : (s : Setting) (held : Held) → IsOfJob s held → (state_of held).view.enc.0 ≡ 0 → (a : ℕ) → a < 64
    → IsPlainColumn (column_of held a)
plain_column s held of_job opened a small =
    subst IsPlainColumn (sym (shown_at held.table.columns a))
    (unsealed (get_or held.table.columns a None) (λ c is. scheme_none s held opened a c
    (subst (IsColumnAt s (node_of held).0 (state_of held).view a) (shown_at held.table.columns a ∙ is) (of_job.column a small))))

-- ---- the value of an item

plain_decodes : (seals : Seals) (a row : ℕ) (o : Option Shown) → IsPlainColumn o
    → option_and_then plain_value (option_and_then (λ (c : Shown). slice_get c.cells row) o)
    ≡ option_and_then (decoded_cell seals a) (option_and_then (λ (c : Shown). slice_get c.cells row) o)
plain_decodes seals a row None plain = refl
plain_decodes seals a row (Some c) plain =
    let cell : slice_get c.cells row ≡ option_map Plain (slice_get plain.0 row) =
    ap (λ cells. slice_get cells row) plain.1 ∙ slice_get-map Plain plain.0 row in
    ap (option_and_then plain_value) cell ∙ same (slice_get plain.0 row) ∙ sym (ap (option_and_then (decoded_cell seals a)) cell)
  where
    same : (v : Option Value) → option_and_then plain_value (option_map Plain v) ≡ option_and_then (decoded_cell seals a) (option_map Plain v)
    same None = refl
    same (Some v) = refl

item_decodes : (s : Setting) (seals : Seals) (held : Held) → IsOfJob s held → (state_of held).view.enc.0 ≡ 0 → (row : ℕ) (i : Item)
    → IsSmallItem i → plain_item (row_of held row) i ≡ item_of value_count (decoded seals (row_of held row)) i
item_decodes s seals held of_job opened row (item.Attr a) small =
    plain_decodes seals a.0 row (column_of held a.0) (plain_column s held of_job opened a.0 small)
item_decodes s seals held of_job opened row item.Count small = refl

same_items : (f g : Item → Option Value) (items : List Item) → AllByRecursion (λ i. f i ≡ g i) items → filter_map f items ≡ filter_map g items
same_items f g [] all = refl
same_items f g (i ∷ items) all = ap (λ o. cons_option o (filter_map f items)) all.0 ∙ ap (cons_option (g i)) (same_items f g items all.1)

each_item : (P : Item → Type 0) (Q : Item → Type 0) → ((i : Item) → P i → Q i) → (items : List Item) → AllByRecursion P items → AllByRecursion Q items
each_item P Q leads [] all = tt
each_item P Q leads (i ∷ items) all = (leads i all.0, each_item P Q leads items all.1)

row_decodes : (s : Setting) (seals : Seals) (held : Held) → IsOfJob s held → (state_of held).view.enc.0 ≡ 0 → (items : List Item)
    → All IsSmallItem items → (row : ℕ) → plain_items items (row_of held row) ≡ selected value_count items (decoded seals (row_of held row))
row_decodes s seals held of_job opened items small row =
    same_items (plain_item (row_of held row)) (item_of value_count (decoded seals (row_of held row))) items
    (each_item IsSmallItem (λ i. plain_item (row_of held row) i ≡ item_of value_count (decoded seals (row_of held row)) i)
    (λ i is. item_decodes s seals held of_job opened row i is) items (recursion_from_All IsSmallItem items small))

-- the values of all rows
rows_decode : (s : Setting) (seals : Seals) (held : Held) → IsOfJob s held → (state_of held).view.enc.0 ≡ 0 → (items : List Item)
    → All IsSmallItem items → map (plain_items items) (table_of held) ≡ map (selected value_count items) (map (decoded seals) (table_of held))
rows_decode s seals held of_job opened items small =
    ap (map (plain_items items)) (rows_read held)
    ∙ map_map (plain_items items) (row_of held) (range_with_len 0 held.table.rows)
    ∙ map_agree (λ row. plain_items items (row_of held row)) (λ row. selected value_count items (decoded seals (row_of held row)))
    (row_decodes s seals held of_job opened items small) (range_with_len 0 held.table.rows)
    ∙ sym (map_map (selected value_count items) (λ row. decoded seals (row_of held row)) (range_with_len 0 held.table.rows))
    ∙ ap (map (selected value_count items)) (sym (map_map (decoded seals) (row_of held) (range_with_len 0 held.table.rows)))
    ∙ ap (λ rows. map (selected value_count items) (map (decoded seals) rows)) (sym (rows_read held))

-- so are those of the root
pub root_rows : (s : Setting) (keys : List (List ℕ)) (contents : Contents) → IsRun s keys contents → (place : ℕ) → place < 2 ^ 32
    → (held : Held) → IsRanTo s keys contents place held → (items : List Item) → All IsSmallItem items
    → map (plain_items items) (table_of held) ≡ map (selected value_count items) (node_rows value_tests contents s.basis.nodes (root s))
root_rows s keys contents run place few held ran items small =
    let stands = ran.stands.stands in
    let opened : (state_of held).view.enc.0 ≡ 0 = ap (λ (st : State). st.view.enc.0) stands.state ∙ ran.opened in
    rows_decode s (seals_of s.basis.clusters keys) held stands.of_job opened items small
    ∙ ap (map (selected value_count items))
    (ap (map (decoded (seals_of s.basis.clusters keys))) stands.rows
    ∙ runs_decode s keys contents run (root s) ran.stands.start ran.term (record {
      gives = ran.gives;
      runs = stands.runs;
      few = omega (arith, ran.stands.ends, few);
      narrow =
          subst (λ n. NoneIsWide contents (tree_of_node s.basis.nodes n))
          (same_given (node_of held).0 (root s) (term.node_of s ran.term) stands.gives ran.gives) stands.narrow;
    }))
  where
    same_given : (m n : ℕ) (o : Option ℕ) → o ≡ Some m → o ≡ Some n → m ≡ n
    same_given m n o one other = let both : Some m ≡ Some n = sym one ∙ other in cc
