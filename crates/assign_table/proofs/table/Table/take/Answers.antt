use Rattle.std.proofs.Common.{◌≡◌, Some, ap, arith, heap_items, length, map, refl, subst, sym, ◌∙◌}
use Rattle.std.proofs.lemmas.List.{length-map}
use Rattle.std.specs.Map.{keys_of}
use Rattle.assign_table.specs.inside.Cells.{IsListedOn, cell_of}
use Rattle.assign_table.specs.inside.Settling.{IsFront}
use Rattle.assign_table.specs.inside.Sheet.{IsTaken, Sheet, sheet_of, waits_at}
use Rattle.assign_table.proofs.QueueLaws.{if_none, is_popped, still_heaped, still_placed, told}
use Rattle.assign_table.proofs.SheetLaws.{cell_with, drained-last, fresh-from, sifted-more, taken-first}
use Rattle.assign_table.proofs.table.Table.take.Goals as goal

pub invariant_of-self-clause-placed : goal.invariant_of-self-clause-placed
invariant_of-self-clause-placed c =
    still_placed (length c.sifting.self.cells.entries) (heap_items c.sifting.self.queue) (heap_items c.pop.new.self) c.pop.result
    c.pop.ensures.permutation (if_none c.pop.result _ _ (λ same. same.0) c.pop.ensures.unchanged) c.sifting.self.placed

pub invariant_of-self-clause-heaped : goal.invariant_of-self-clause-heaped
invariant_of-self-clause-heaped c =
    still_heaped (heap_items c.sifting.self.queue) (heap_items c.pop.new.self) c.pop.result c.pop.ensures.heap_order
    (if_none c.pop.result _ _ (λ same. same.0) c.pop.ensures.unchanged) c.sifting.self.heaped

pub returns-in-None-clause-taken : goal.returns-in-None-clause-taken
returns-in-None-clause-taken c =
    let same = c.in-None.ensures.unchanged.0 in
    let states = keys_of c.sifting.self.cells.entries in
    drained-last (sheet_of c.args.self.now) (sheet_of c.sifting.self) (told c.sifting.self.cells.entries (heap_items c.pop.new.self))
    c.sifting.invariant refl (ap (map (waits_at states)) same)
    (length-map (heap_items c.sifting.self.queue) (waits_at states) ∙ omega (arith, c.sifting.self.queue.data.ok.0, c.in-None.ensures.none))

pub current-requires : goal.current-requires
current-requires c =
    (is_popped c.sifting.self.cells.entries (heap_items c.sifting.self.queue) c.in-Some.field-0 (heap_items c.pop.new.self)
    c.sifting.self.placed c.sifting.self.heaped c.in-Some.ensures.permutation c.in-Some.ensures.heap_order
    c.in-Some.ensures.below_top).here

pub passed-requires-clause-state : goal.passed-requires-clause-state
passed-requires-clause-state c =
    let cells = c.sifting.self.cells.entries in
    let waits = waits_at (keys_of cells) c.in-Some.field-0 in
    sym (fresh-from waits (cell_of cells waits.state) c.in-Some-current.settled (sym c.in-Some-current.ensures)).state

pub returns-in-Some-current-clause-taken : goal.returns-in-Some-current-clause-taken
returns-in-Some-current-clause-taken c =
    let popped =
    is_popped c.sifting.self.cells.entries (heap_items c.sifting.self.queue) c.in-Some.field-0 (heap_items c.pop.new.self)
    c.sifting.self.placed c.sifting.self.heaped c.in-Some.ensures.permutation c.in-Some.ensures.heap_order c.in-Some.ensures.below_top in
    let taken =
    taken-first (sheet_of c.args.self.now) (sheet_of c.sifting.self) (told c.sifting.self.cells.entries (heap_items c.pop.new.self))
    (waits_at (keys_of c.sifting.self.cells.entries) c.in-Some.field-0) c.in-Some-current.settled
    c.sifting.invariant refl popped.moved popped.ordered (λ before. popped.least) (sym c.in-Some-current.ensures) in
    subst (λ (sheet : Sheet). IsTaken (sheet_of c.args.self.now) c.passed.result.settled sheet) (sym c.passed.ensures.same)
    (subst (λ e. IsTaken (sheet_of c.args.self.now) e (told c.sifting.self.cells.entries (heap_items c.pop.new.self))) (sym c.passed.ensures.settled) taken)

pub returns-in-Some-current-clause-front : goal.returns-in-Some-current-clause-front
returns-in-Some-current-clause-front c =
    let cells = c.sifting.self.cells.entries in
    let waits = waits_at (keys_of cells) c.in-Some.field-0 in
    let e = c.in-Some-current.settled in
    let fresh = fresh-from waits (cell_of cells waits.state) e (sym c.in-Some-current.ensures) in
    subst (IsFront c.passed.new.self) (sym c.passed.ensures.settled)
    (record {
      listed = subst (λ (sheet : Sheet). IsListedOn sheet.cells e.state e.label) (sym c.passed.ensures.same)
          (record {
            cell = cell_with e.label e.way;
            listed = subst (λ st. cell_of cells st ≡ Some (cell_with e.label e.way)) (sym fresh.state) fresh.listed;
            enough = omega arith;
          });
      low = c.passed.ensures.low;
      fits = c.passed.ensures.fits;
    })

pub sifting-preserved : goal.sifting-preserved
sifting-preserved c =
    let popped =
    is_popped c.sifting.self.cells.entries (heap_items c.sifting.self.queue) c.in-Some.field-0 (heap_items c.pop.new.self)
    c.sifting.self.placed c.sifting.self.heaped c.in-Some.ensures.permutation c.in-Some.ensures.heap_order c.in-Some.ensures.below_top in
    sifted-more (sheet_of c.args.self.now) (sheet_of c.sifting.self) (told c.sifting.self.cells.entries (heap_items c.pop.new.self))
    (waits_at (keys_of c.sifting.self.cells.entries) c.in-Some.field-0) c.sifting.invariant refl
    popped.moved (λ before. (popped.ordered before).0) (sym c.in_default.ensures)
