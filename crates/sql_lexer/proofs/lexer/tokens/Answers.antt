use Rattle.std.proofs.Common.{Ok, Err, is_ok, refl, sym, ap, ◌∙◌, arith, false-eqb}
use Rattle.std.proofs.ResultArms.{chosen}
use Rattle.std.proofs.lemmas.Bool.{eqb-true}
use Rattle.sql_lexer.specs.declared.refusal.LexNo.TheVariants.{BadChar, OpenText}
use Rattle.sql_lexer.specs.Lexing.{front_of}
use Rattle.sql_lexer.proofs.Turns.{next-start, cut-white, next-white, cut-taken, next-taken, passes, next-bad, next-open, next-end}
use Rattle.sql_lexer.proofs.SliceLaws.{lexed-slices, lexed-longest}
use Rattle.sql_lexer.proofs.lexer.tokens.Goals as goal

pub loop-rest-init : goal.loop-rest-init
loop-rest-init c = rw (c.new-found.ensures.items) (next-start c.args.text.now c.utf8.text)

pub split_at-requires : goal.split_at-requires
split_at-requires c =
    cut-white _ _ _ c.loop-rest.invariant (c.in-White.ensures ∙ ap front_of c.as_bytes.ensures.value)
    (omega (arith, false-eqb _ 0 c.loop-rest-test.ensures))

pub loop-rest-preserved-in-White : goal.loop-rest-preserved-in-White
loop-rest-preserved-in-White c =
    next-white _ _ _ c.loop-rest.invariant _ (c.in-White.ensures ∙ ap front_of c.as_bytes.ensures.value)
    (omega (arith, false-eqb _ 0 c.loop-rest-test.ensures)) c.split_at.ensures.back

pub split_at-requires-in-Taken : goal.split_at-requires-in-Taken
split_at-requires-in-Taken c =
    cut-taken _ _ _ c.loop-rest.invariant _ _ (c.in-Taken.ensures ∙ ap front_of c.as_bytes.ensures.value)

pub loop-rest-preserved : goal.loop-rest-preserved
loop-rest-preserved c =
    rw (chosen _ _ _ _ c.push.ensures.items (ap is_ok c.in_ok-push-in-Taken.was))
    (next-taken _ _ _ c.loop-rest.invariant _ _ _ _ (c.in-Taken.ensures ∙ ap front_of c.as_bytes.ensures.value)
    (rw (c.split_at-in-Taken.ensures.front) refl) c.split_at-in-Taken.ensures.back)

pub loop-rest-smaller : goal.loop-rest-smaller
loop-rest-smaller c =
    rw (c.split_at-in-Taken.ensures.back)
    (passes _ _ _ c.loop-rest.invariant _ _ (c.in-Taken.ensures ∙ ap front_of c.as_bytes.ensures.value))

pub returns-in-Bad-clause-lexed : goal.returns-in-Bad-clause-lexed
returns-in-Bad-clause-lexed c =
    next-bad _ _ _ c.loop-rest.invariant (c.in-Bad.ensures ∙ ap front_of c.as_bytes.ensures.value)
    (omega (arith, false-eqb _ 0 c.loop-rest-test.ensures))

pub returns-in-Bad-clause-longest : goal.returns-in-Bad-clause-longest
returns-in-Bad-clause-longest c = lexed-longest c.args.text.now (Err (BadChar _)) (returns-in-Bad-clause-lexed c)

pub returns-in-Open-clause-lexed : goal.returns-in-Open-clause-lexed
returns-in-Open-clause-lexed c =
    next-open _ _ _ c.loop-rest.invariant (c.in-Open.ensures ∙ ap front_of c.as_bytes.ensures.value)
    (omega (arith, false-eqb _ 0 c.loop-rest-test.ensures))

pub returns-in-Open-clause-longest : goal.returns-in-Open-clause-longest
returns-in-Open-clause-longest c = lexed-longest c.args.text.now (Err (OpenText _)) (returns-in-Open-clause-lexed c)

pub returns-clause-lexed : goal.returns-clause-lexed
returns-clause-lexed c =
    rw (c.of.ensures) (next-end _ _ _ c.loop-rest.invariant (eqb-true _ 0 (sym c.loop-rest-test.ensures)))

pub returns-clause-sliced : goal.returns-clause-sliced
returns-clause-sliced c = lexed-slices c.args.text.now (Ok c.of.result) (returns-clause-lexed c)

pub returns-clause-longest : goal.returns-clause-longest
returns-clause-longest c = lexed-longest c.args.text.now (Ok c.of.result) (returns-clause-lexed c)
