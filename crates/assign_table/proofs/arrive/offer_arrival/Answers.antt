use Rattle.std.proofs.lemmas.Result.{on_ok_weaker}
use Rattle.assign_table.specs.inside.Sheet.{sheet_of}
use Rattle.assign_table.proofs.ArriveLaws.{arrival_crowded, arrival_open}
use Rattle.assign_table.proofs.NearLaws.{none-near}
use Rattle.assign_table.proofs.GainLaws.{on-both}
use Rattle.assign_table.proofs.OrderLaws.{offered-listed}
use Rattle.assign_table.proofs.arrive.offer_arrival.Goals as goal

pub returns-clause-opened : goal.returns-clause-opened
returns-clause-opened c =
    on-both c.offer.result
    (arrival_open c.args.gate c.args.gate.job.now.ready c.args.room (sheet_of c.args.table.now) (sheet_of c.offer.new.self) c.args.state c.args.label
    c.args.way c.requires.opened c.requires.arrives)
    c.offer.ensures.offered c.offer.ensures.within

pub returns-clause-listed : goal.returns-clause-listed
returns-clause-listed c =
    on_ok_weaker c.offer.result
    (offered-listed (sheet_of c.args.table.now) (sheet_of c.offer.new.self) c.args.state c.args.label c.args.way) c.offer.ensures.offered

pub returns-clause-crowded : goal.returns-clause-crowded
returns-clause-crowded c = λ full.
    arrival_crowded c.args.gate c.args.room (sheet_of c.args.table.now) c.args.state c.args.label c.args.way c.requires.opened c.requires.arrives
    (c.offer.ensures.refused full)

pub offer-requires : goal.offer-requires
offer-requires c = record { near = none-near (sheet_of c.args.table.now).cells c.args.state c.args.table.now.front }
