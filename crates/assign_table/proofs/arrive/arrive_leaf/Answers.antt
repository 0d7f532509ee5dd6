use Rattle.std.proofs.Common.{sym, ◌∙◌, subst}
use Rattle.std.specs.Prelude.{IfSome}
use Rattle.std.proofs.lemmas.Result.{on_ok_weaker}
use Rattle.assign_table.specs.inside.Arrivals.{gate_setting}
use Rattle.assign_table.specs.inside.Cells.{IsListedOn}
use Rattle.assign_table.specs.inside.Sheet.{sheet_of}
use Rattle.assign_table.proofs.ArriveLaws.{leaf_arrives, leaf_is, leaf_listed}
use Rattle.assign_table.proofs.arrive.arrive_leaf.Goals as goal

pub offer_arrival-requires-clause-arrives : goal.offer_arrival-requires-clause-arrives
offer_arrival-requires-clause-arrives c =
    leaf_arrives c.args.gate c.args.gate.job.now.ready c.requires.gate c.in-Base.t c.in-Some.state
    (leaf_is (gate_setting c.args.gate) c.args.gate.job.now.ready c.args.gate.node.0 c.requires.gate.node c.in-Base.t c.in-Base.field-1
    (sym c.operation.ensures ∙ c.in-Base.is))
    (sym c.in-Some.ensures.answers)

pub returns-in-None-clause-arrived : goal.returns-in-None-clause-arrived
returns-in-None-clause-arrived c =
    leaf_listed c.args.gate c.in-Base.t c.in-Base.field-1 (sheet_of c.args.table.now).cells (sym c.operation.ensures ∙ c.in-Base.is)
    (subst (λ gained. IfSome gained (λ st. IsListedOn (sheet_of c.args.table.now).cells st 0)) c.in-None.ensures.answers tt)

pub returns-in-Some-clause-arrived : goal.returns-in-Some-clause-arrived
returns-in-Some-clause-arrived c =
    on_ok_weaker c.offer_arrival.result
    (λ listed.
    leaf_listed c.args.gate c.in-Base.t c.in-Base.field-1 (sheet_of c.offer_arrival.new.table).cells (sym c.operation.ensures ∙ c.in-Base.is)
    (subst (λ gained. IfSome gained (λ st. IsListedOn (sheet_of c.offer_arrival.new.table).cells st 0)) c.in-Some.ensures.answers listed))
    c.offer_arrival.ensures.listed
