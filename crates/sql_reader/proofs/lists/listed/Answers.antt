use Rattle.std.proofs.Common.{◌≡◌, ◌-◌, ◌+◌, zero, suc, length, sym, refl, ◌∙◌, arith}
use Rattle.std.proofs.lemmas.List.{map_push}
use Rattle.std.proofs.lemmas.Result.{err_from_is_err_and}
use Rattle.sql_reader.specs.Marks.{is_one_of}
use Rattle.sql_reader.specs.inside.Answers.{left}
use Rattle.sql_reader.proofs.LoopLaws.{stands-start, stands-next, stands-stuck, stands-none, stands-end, passed_on}
use Rattle.sql_reader.proofs.lists.listed.Goals.{else-each-test, then-each-test+then-not-next_is}
use Rattle.sql_reader.proofs.lists.listed.Goals as goal

pub each-init : goal.each-init
each-init g c = (
  rw (c.in_ok-push.ensures.ok, c.new-found.ensures)
      (stands-start (is_one_of c.args.marks.now) g.P.Phrase.further.read (g.P.Phrase.plain c.args.first) c.args.tokens.now c.args.from),
  refl,
)

pub returns-in_err-next : goal.returns-in_err-next
returns-in_err-next g c =
    let p = err_from_is_err_and c.from_residual-in_err-next.result c.from_residual-in_err-next.ensures.1 in
    let turns : length c.args.tokens.now - c.each._turn ≡ suc (length c.args.tokens.now - (c.each._turn + 1)) = omega (arith, c.each-test.true) in
    rw (p.1, p.2) (passed_on _ (g.P.Phrase.further.read (left c.args.tokens.now c.each.after)) _ c.in_err-next.ensures
    (λ place is. stands-stuck _ place (rw turns at c.each.invariant.0) (sym (c.if-not-next_is.ensures)) is))

pub each-preserved : goal.each-preserved
each-preserved g c =
    let turns : length c.args.tokens.now - c.each._turn ≡ suc (length c.args.tokens.now - (c.each._turn + 1)) = omega (arith, c.each-test.true) in (
      rw (c.in_ok-push-2.ensures.ok, map_push g.P.Phrase.plain c.each.found c.in_ok-next.next)
          (stands-next _ _ _ (rw turns at c.each.invariant.0) (sym c.if-not-next_is.ensures) c.in_ok-next.ensures.0),
      c.in_ok-next.ensures.1 ∙ c.each.invariant.1,
    )

pub returns : goal.returns
returns g c = elim c.each-test.branch [
  | else-each-test w ↦
      let turns : length c.args.tokens.now - c.each._turn ≡ zero = omega (arith, w.each-test.false) in
      (stands-none (rw turns at c.each.invariant.0), c.each.invariant.1)
  | then-each-test+then-not-next_is w ↦
      let turns : length c.args.tokens.now - c.each._turn ≡ suc (length c.args.tokens.now - (c.each._turn + 1)) = omega (arith, w.each-test.true) in
      (stands-end _ (rw turns at c.each.invariant.0) (sym (w.if-not-next_is.ensures)), c.each.invariant.1)
]
