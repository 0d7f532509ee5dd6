use Rattle.std.proofs.lemmas.Result.{err_from_is_err_and}
use Rattle.price_reader.specs.Codes as price
use Rattle.price_reader.specs.Outcome.{price_outcome}
use Rattle.policy_base.specs.Priced.{IsPriced}
use Rattle.std.proofs.Common.{length}
use Rattle.command_input.specs.declared.fault.FileRole.TheVariants as role
use Rattle.command_input.specs.Input.{prices_input}
use Rattle.command_input.proofs.Judging.{answer_judges, judged_if_ok}
use Rattle.command_input.proofs.Knowing.{loads_judged, loads_failed}
use Rattle.command_input.proofs.Numbers.{price_numbered}
use Rattle.command_input.proofs.files.load_prices.Goals as goal

pub returns-in_err-bytes-clause-loads : goal.returns-in_err-bytes-clause-loads
unfolding prices_input
returns-in_err-bytes-clause-loads g c =
    let p = err_from_is_err_and c.from_residual.result c.from_residual.ensures.1 in
    rw (p.1, p.2) (loads_failed (g.H.Shelf.state c.args.shelf.now) (g.H.Shelf.state c.read_file.new.shelf) role.Prices c.args.name.now
    (price_outcome c.args.policy.now) _ c.in_err-bytes.ensures.stops)

pub returns-clause-loads : goal.returns-clause-loads
unfolding prices_input
returns-clause-loads g c =
    rw c.judge.ensures
    (loads_judged (g.H.Shelf.state c.args.shelf.now) (g.H.Shelf.state c.read_file.new.shelf) role.Prices c.args.name.now
    (price_outcome c.args.policy.now) c.in_ok-bytes.bytes.items _ c.in_ok-bytes.ensures.content c.in_ok-bytes.ensures.within
    (answer_judges role.Prices price.told price_numbered c.read_prices.result _ (rw c.as_slice.ensures.value at c.read_prices.ensures.read)))

pub returns-clause-priced : goal.returns-clause-priced
returns-clause-priced g c =
    rw c.judge.ensures (judged_if_ok role.Prices price.told (IsPriced (length c.args.policy.now.schema.attrs)) c.read_prices.result c.read_prices.ensures.priced)
