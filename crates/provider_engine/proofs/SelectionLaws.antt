-- Laws of selections: the rows that one keeps are those of its operation.
use Rattle.std.proofs.Common.{◌≡◌, refl, sym, ◌∙◌, ap, subst, ℕ, List, map, filter, Option, Some, None}
use Rattle.std.specs.Prelude.{IfSome}
use Rattle.std.specs.List.{range_with_len}
use Rattle.base_laws.proofs.FilterLaws.{filter_mapped}
use Rattle.column_table.specs.Cells.{Cell, Seals, cell_tests, compares_constant}
use Rattle.column_table.specs.Chosen.{IsSealedBeside}
use Rattle.column_table.specs.Columns.{Shown, cell_at, column_at, row_at, rows_in}
use Rattle.key_clusters.specs.declared.assigned.Clusters.{Clusters}
use Rattle.key_clusters.specs.Keys.{scheme_at}
use Rattle.mq_base.specs.declared.ids.AttrId.{AttrId}
use Rattle.mq_base.specs.declared.plan.PlanOp.{PlanOp}
use Rattle.mq_base.specs.declared.plan.PlanOp.TheVariants as op
use Rattle.mq_base.specs.declared.query.CmpOp.{CmpOp}
use Rattle.mq_base.specs.declared.table.Scheme.{Scheme}
use Rattle.mq_base.specs.declared.value.Value.{Value}
use Rattle.plan_algebra.specs.Tree.{apply_one}
use Rattle.provider_engine.specs.Opening.{listed_key, seals_of}
use Rattle.provider_engine.specs.inside.Choosing.{AreSealedUnder, IsSelection, keeps}
use Rattle.row_algebra.specs.Rows.{RowOf}
use Rattle.row_algebra.specs.Tests.{Tests, passes}
use Rattle.sealed_column.specs.Seal.{seal}

-- the rows that compare so with a constant are those of a selection by it, which is sealed under the scheme and the key of the attribute
-- where its column is
pub chosen_by_constant : (clusters : Clusters) (keys : List (List ℕ)) (columns : List (Option Shown)) (counts : Option (List ℕ)) (rows : ℕ)
    (o : PlanOp) (a : AttrId) (cmp : CmpOp) (x : Value) (key kept : List ℕ) → o ≡ op.SelConst a cmp x → key ≡ listed_key keys a.0
    → ((seals : Seals) → IsSealedBeside seals key a.0 x (column_at columns a.0)
    → kept ≡ filter (λ row. passes (compares_constant seals a.0 cmp x) (cell_at columns row a.0)) (range_with_len 0 rows))
    → AreSealedUnder clusters columns o
    → kept ≡ filter (λ row. keeps (cell_tests (seals_of clusters keys)) o (row_at columns counts row)) (range_with_len 0 rows)
chosen_by_constant clusters keys columns counts rows o a cmp x key kept is key_is made =
    subst (λ p. AreSealedUnder clusters columns p
    → kept ≡ filter (λ row. keeps (cell_tests (seals_of clusters keys)) p (row_at columns counts row)) (range_with_len 0 rows)) (sym is)
    (λ sealed. made (seals_of clusters keys) (beside (column_at columns a.0) sealed))
  where
    by_scheme : (s : Option Scheme) → IfSome s (λ scheme. scheme ≡ scheme_at clusters a.0)
        → IfSome s (λ scheme. seal (scheme_at clusters a.0) (listed_key keys a.0) 0 0 x ≡ seal scheme key 0 0 x)
    by_scheme None same = tt
    by_scheme (Some s) same = λ j. seal (sym same j) (sym key_is j) 0 0 x

    beside : (c : Option Shown) → IfSome c (λ (d : Shown). IfSome d.scheme (λ scheme. scheme ≡ scheme_at clusters a.0))
        → IsSealedBeside (seals_of clusters keys) key a.0 x c
    beside None same = tt
    beside (Some c) same = by_scheme c.scheme same

-- an operation that is a selection keeps the rows that it keeps
selection_is : (tests : Tests Cell) (o : PlanOp) (rows : List (RowOf Cell)) → IsSelection o → filter (keeps tests o) rows ≡ apply_one tests o rows
selection_is tests (op.SelConst a cmp x) rows is = refl
selection_is tests (op.SelCount cmp n) rows is = refl
selection_is tests (op.SelAttr a cmp b) rows is = refl
selection_is tests (op.Base t used) rows is = absurd is
selection_is tests (op.Project kept) rows is = absurd is
selection_is tests op.Product rows is = absurd is
selection_is tests (op.Join a cmp b) rows is = absurd is
selection_is tests (op.Group by aggs count) rows is = absurd is

-- the rows at the chosen places are those that the selection keeps
pub selected : (tests : Tests Cell) (o : PlanOp) (columns : List (Option Shown)) (counts : Option (List ℕ)) (rows : ℕ) (kept : List ℕ)
    (made : List (RowOf Cell)) → IsSelection o → kept ≡ filter (λ row. keeps tests o (row_at columns counts row)) (range_with_len 0 rows)
    → made ≡ map (row_at columns counts) kept → made ≡ apply_one tests o (rows_in columns counts rows)
unfolding rows_in
selected tests o columns counts rows kept made is kept_is made_is =
    made_is
    ∙ ap (map (row_at columns counts)) kept_is
    ∙ sym (filter_mapped (keeps tests o) (row_at columns counts) (range_with_len 0 rows))
    ∙ selection_is tests o (map (row_at columns counts) (range_with_len 0 rows)) is
