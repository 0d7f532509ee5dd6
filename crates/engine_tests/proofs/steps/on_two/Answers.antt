use Rattle.engine_tests.proofs.steps.on_two.Goals as goal

pub returns-in-Ok-clause-opened : goal.returns-in-Ok-clause-opened
returns-in-Ok-clause-opened g c =
    c.in-Ok.ensures.opened c.args.keys.now.keys c.requires.left_opened c.requires.right_opened
