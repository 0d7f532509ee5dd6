use Rattle.std.proofs.Common.{◌≡◌, ◌+◌, ◌<◌, [], ◌∷◌, ◌++◌, length, heap_items, sym, ◌∙◌, ap, subst, arith, is_some, if◌then◌else◌}
use Rattle.std.specs.BinaryHeap.{IsHeap}
use Rattle.std.specs.List.{All}
use Rattle.assign_table.specs.inside.Queue.{place_cmp}
use Rattle.assign_table.proofs.NearLaws.{all-put}
use Rattle.assign_table.proofs.QueueLaws.{added, on_either, placed-pushed}
use Rattle.assign_table.proofs.table.Table.add.Goals as goal

pub invariant_of-self-2-clause-placed : goal.invariant_of-self-2-clause-placed
invariant_of-self-2-clause-placed c =
    let grown : length c.insert.new.self.entries ≡ length c.args.self.now.cells.entries + 1 =
    c.in_ok-insert.ensures.len ∙ ap (λ (found : _). length c.args.self.now.cells.entries + (if is_some found then 0 else 1)) (c.in_ok-insert.ensures.old ∙ c.requires.new) in
    on_either c.push-2.result _ _ (All (λ w. w.0.place < length c.insert.new.self.entries) (heap_items c.push-2.new.self))
    c.push-2.ensures.permutation c.push-2.ensures.unchanged
    (placed-pushed (length c.args.self.now.cells.entries) (length c.insert.new.self.entries) _ (heap_items c.args.self.now.queue)
    (heap_items c.push-2.new.self) (omega arith) c.args.self.now.placed (omega (arith, c.len-place.ensures.len)))
    (λ same. subst (λ queue. All (λ w. w.0.place < length c.insert.new.self.entries) queue) (sym same.0)
    (λ k d within. let before = c.args.self.now.placed k d within in omega arith))

pub invariant_of-self-2-clause-heaped : goal.invariant_of-self-2-clause-heaped
invariant_of-self-2-clause-heaped c =
    on_either c.push-2.result _ _ (IsHeap place_cmp (heap_items c.push-2.new.self)) c.push-2.ensures.heap_order c.push-2.ensures.unchanged
    (λ keeps. keeps c.args.self.now.heaped)
    (λ same. subst (λ queue. IsHeap place_cmp queue) (sym same.0) c.args.self.now.heaped)

pub returns-clause-written : goal.returns-clause-written
returns-clause-written c =
    added c.args.self.now.cells.entries c.insert.new.self.entries (heap_items c.args.self.now.queue) (heap_items c.push-2.new.self)
    c.args.state c.len-place.result c.args.label c.args.way c.len-place.ensures.len c.requires.new c.in_ok-insert.ensures.entries c.in_ok-insert.ensures.unique
    c.args.self.now.placed c.in_ok-push-2.ensures.permutation
    (c.in_ok-push-2.ensures.heap_order c.args.self.now.heaped)

pub invariant_of-self-2-clause-listed : goal.invariant_of-self-2-clause-listed
invariant_of-self-2-clause-listed c =
    all-put c.args.self.now.cells.entries c.insert.new.self.entries c.args.self.now.near.items c.push.new.self.items c.args.self.now.front
    c.len-place.result c.args.state (record { label = c.args.label; way = c.args.way }) c.args.near c.args.self.now.each
    c.len-place.ensures.len c.requires.new c.in_ok-insert.ensures.entries
    (c.in_ok-push.ensures.items ∙ ap (λ sets. sets ++ c.args.near ∷ []) c.truncate.ensures.items) c.requires.near c.args.self.now.listed
