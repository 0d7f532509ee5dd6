use Rattle.std.proofs.Common.{List, [], ◌∷◌, ◌++◌, ℕ, ap, rules, ◌∙◌}
use Rattle.sealed_column.specs.Rows.{listed}
use Rattle.sealed_column.proofs.RowLaws.{index_put}
use Rattle.sealed_column.proofs.rows.put.Goals as goal

pub returns-in-Some : goal.returns-in-Some
returns-in-Some g c =
    λ cells long index.
    index_put g.C.Ord.cmp g.met.C.Ord.total c.args.found.now _ cells c.args.cell c.args.row c.in-Some.rows.now c.push.new.self long index
    (ap listed c.in-Some.ensures.value) c.in_ok-push.ensures.ok
    ((c.get_mut.follows.holds c.push.new.self).3 (search rules)).0

pub returns : goal.returns
returns g c =
    λ cells long index.
    index_put g.C.Ord.cmp g.met.C.Ord.total c.args.found.now _ cells c.args.cell c.args.row [] c.push-2.new.self long index
    (ap listed c.in_default.ensures.value)
    (c.in_ok-push-2.ensures.ok ∙ ap (λ (rows : List ℕ). rows ++ c.args.row ∷ []) c.new-rows.ensures)
    (rw c.get_mut.follows.holds-at-none at c.in_ok-insert.ensures.updates).0
