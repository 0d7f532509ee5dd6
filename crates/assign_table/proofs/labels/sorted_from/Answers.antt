use Rattle.std.proofs.Common.{sym}
use Rattle.std.specs.List.Sorted.{IsPermutation}
use Rattle.std.proofs.Common.{rules}
use Rattle.std.proofs.lemmas.List.Sorted.{answers_always}
use Rattle.std.proofs.Math.Path.{subst}
use Rattle.extended_plan.specs.declared.state.Entry.{Entry}
use Rattle.assign_table.specs.inside.Blocks.{AreEntriesOf}
use Rattle.assign_table.proofs.SortLaws.{sorted_entries}
use Rattle.assign_table.proofs.labels.sorted_from.Goals as goal

pub returns : goal.returns
returns c =
    subst (AreEntriesOf c.args.settled.now c.args.from c.args.to) (sym c.of.ensures)
    (sorted_entries c.args.settled.now c.args.from c.args.to c.sort_unstable_by_key.new.self.items c.requires.inside c.requires.apart
    (subst (λ es. IsPermutation es c.sort_unstable_by_key.new.self.items) c.in_ok-entries.ensures c.sort_unstable_by_key.ensures.permutation)
    (c.sort_unstable_by_key.ensures.sorted (λ (e : Entry). e.state) (answers_always _ _ _ (λ f a r f' called. search rules))))
