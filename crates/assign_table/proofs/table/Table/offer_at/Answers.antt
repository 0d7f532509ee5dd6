use Rattle.std.proofs.Common.{◌≡◌, ◌<◌, length, heap_items, refl, sym, ◌∙◌, subst, arith, true≢false}
use Rattle.std.specs.Prelude.{slice_set}
use Rattle.std.proofs.lemmas.List.{length-set as length-put}
use Rattle.std.specs.BinaryHeap.{IsHeap}
use Rattle.std.specs.List.{All}
use Rattle.indexmap.specs.IndexMap.{set_value_at}
use Rattle.assign_table.specs.inside.Queue.{place_cmp}
use Rattle.assign_table.proofs.NearLaws.{all-lowered, all-noted}
use Rattle.assign_table.proofs.QueueLaws.{is_placed, length-set, lower_there, lowered, not_lower_there, on_either, placed-pushed}
use Rattle.assign_table.proofs.table.Table.offer_at.Goals as goal

pub returns-then-index-label-clause-offered : goal.returns-then-index-label-clause-offered
returns-then-index-label-clause-offered c =
    λ st at.
    let placed = is_placed c.args.self.now.cells.entries st c.args.place at in
    let not_lower =
    not_lower_there c.args.self.now.cells.entries st c.args.place c.args.label c.index-2.result.now placed c.index-2.ensures
    c.if-index-label.true in
    record { written = λ lower. absurd (true≢false (sym lower ∙ not_lower)); passed = λ same. refl }

pub invariant_of-self-2-clause-placed : goal.invariant_of-self-2-clause-placed
invariant_of-self-2-clause-placed c =
    let cells = set_value_at c.args.self.now.cells.entries c.args.place (record { label = c.args.label; way = c.args.way }) in
    let kept : length cells ≡ length c.args.self.now.cells.entries = length-set c.args.self.now.cells.entries c.args.place _ in
    on_either c.push.result _ _ (All (λ w. w.0.place < length cells) (heap_items c.push.new.self))
    c.push.ensures.permutation c.push.ensures.unchanged
    (placed-pushed (length c.args.self.now.cells.entries) (length cells) _ (heap_items c.args.self.now.queue)
    (heap_items c.push.new.self) (omega arith) c.args.self.now.placed (omega (arith, c.requires.place)))
    (λ same. subst (λ queue. All (λ w. w.0.place < length cells) queue) (sym same.0)
    (λ k d within. let before = c.args.self.now.placed k d within in omega arith))

pub invariant_of-self-2-clause-heaped : goal.invariant_of-self-2-clause-heaped
invariant_of-self-2-clause-heaped c =
    on_either c.push.result _ _ (IsHeap place_cmp (heap_items c.push.new.self)) c.push.ensures.heap_order c.push.ensures.unchanged
    (λ keeps. keeps c.args.self.now.heaped)
    (λ same. subst (λ queue. IsHeap place_cmp queue) (sym same.0) c.args.self.now.heaped)

pub returns-clause-offered : goal.returns-clause-offered
returns-clause-offered c =
    λ st at.
    let placed = is_placed c.args.self.now.cells.entries st c.args.place at in
    let lower =
    lower_there c.args.self.now.cells.entries st c.args.place c.args.label c.index-2.result.now placed c.index-2.ensures
    c.if-index-label.false in
    record {
      written = λ is.
          lowered c.args.self.now.cells.entries (heap_items c.args.self.now.queue) (heap_items c.push.new.self) st c.args.place
          c.args.label c.args.way placed c.requires.distinct c.in_ok-push.ensures.permutation
          (c.in_ok-push.ensures.heap_order c.args.self.now.heaped);
      passed = λ is. absurd (true≢false (sym lower ∙ is));
    }

pub returns-clause-as_long : goal.returns-clause-as_long
returns-clause-as_long c = length-set c.args.self.now.cells.entries c.args.place (record { label = c.args.label; way = c.args.way })

pub invariant_of-self-clause-each : goal.invariant_of-self-clause-each
invariant_of-self-clause-each c =
    omega (arith, c.args.self.now.each, length-put c.args.self.now.near.items c.args.place c.union.result)

pub invariant_of-self-clause-listed : goal.invariant_of-self-clause-listed
invariant_of-self-clause-listed c =
    all-noted c.args.self.now.cells.entries c.args.self.now.near.items c.args.self.now.front c.args.place c.index.result.now c.union.result
    c.args.near.0 (omega (arith, c.requires.place, c.args.self.now.each)) c.index.ensures c.union.ensures c.requires.near c.args.self.now.listed

pub invariant_of-self-2-clause-each : goal.invariant_of-self-2-clause-each
invariant_of-self-2-clause-each c =
    omega (
      arith,
      c.args.self.now.each,
      length-put c.args.self.now.near.items c.args.place c.union.result,
      length-set c.args.self.now.cells.entries c.args.place (record { label = c.args.label; way = c.args.way }),
    )

pub invariant_of-self-2-clause-listed : goal.invariant_of-self-2-clause-listed
invariant_of-self-2-clause-listed c =
    all-lowered c.args.self.now.cells.entries (slice_set c.args.self.now.near.items c.args.place c.union.result) c.args.self.now.front
    c.args.place c.index-2.result.now (record { label = c.args.label; way = c.args.way }) c.index-2.ensures (omega (arith, c.if-index-label.false))
    (all-noted c.args.self.now.cells.entries c.args.self.now.near.items c.args.self.now.front c.args.place c.index.result.now c.union.result
    c.args.near.0 (omega (arith, c.requires.place, c.args.self.now.each)) c.index.ensures c.union.ensures c.requires.near c.args.self.now.listed)
