use Rattle.std.proofs.lemmas.Result.{on_ok_weaker}
use Rattle.extended_plan.specs.Job.{setting_of}
use Rattle.assign_table.specs.declared.gate.Gate.{Gate}
use Rattle.assign_table.specs.inside.Arrivals.{gate_base}
use Rattle.assign_table.specs.inside.Sheet.{sheet_of}
use Rattle.assign_table.proofs.DoneLaws.{block_done, crowded_over}
use Rattle.assign_table.proofs.SettleLaws.{gathered-blank}
use Rattle.assign_table.proofs.blocks.settle_block.Goals as goal

pub arrive-requires-clause-opened : goal.arrive-requires-clause-opened
arrive-requires-clause-opened c =
    let gate : Gate = record { job = c.args.job; node = c.args.node; settled = c.as_slice.result; starts = c.args.starts } in
    gathered-blank (setting_of c.args.job.now) c.args.node.0 (gate_base gate) c.args.room c.as_slice.result.now (sheet_of c.clear.new.self)
    c.clear.ensures

pub returns-clause-done : goal.returns-clause-done
returns-clause-done c =
    let gate : Gate = record { job = c.args.job; node = c.args.node; settled = c.as_slice.result; starts = c.args.starts } in
    on_ok_weaker c.settle_all.result
    (block_done gate c.args.job.now.ready c.requires.node c.args.room c.args.settled.now.items c.as_slice.ensures.value c.requires.done
    c.requires.room (sheet_of c.arrive.new.table) c.settle_all.new.arena.items c.in_ok-arrive.ensures.opened.opened c.in_ok-arrive.ensures.arrived)
    c.settle_all.ensures.done

pub returns-clause-full : goal.returns-clause-full
returns-clause-full c = λ full.
    let gate : Gate = record { job = c.args.job; node = c.args.node; settled = c.as_slice.result; starts = c.args.starts } in
    crowded_over gate c.args.room c.args.settled.now.items (sheet_of c.arrive.new.table) c.as_slice.ensures.value
    c.in_ok-arrive.ensures.opened.opened (c.settle_all.ensures.full full)
