use Rattle.std.proofs.Common.{map, Err, ap, sym}
use Rattle.std.specs.String.{string_bytes}
use Rattle.command_input.specs.Commands.{command_in}
use Rattle.planner_cli.proofs.Telling.{tells_words, tells_stopped, tells_end, tells_cut, tells_wanting}
use Rattle.planner_cli.proofs.perform.run.Goals as goal

pub returns-in_default-clause-told : goal.returns-in_default-clause-told
returns-in_default-clause-told g c =
    tells_words (map string_bytes c.args.words.now) (g.H.Shelf.state c.args.shelf.now) (g.H.Shelf.state c.args.shelf.now)
    (g.K.Sink.state c.args.sink.now) (sym (rw c.in_default.is at c.parse.ensures))

pub returns-in-Ok-finish-clause-told : goal.returns-in-Ok-finish-clause-told
returns-in-Ok-finish-clause-told g c =
    tells_end (map string_bytes c.args.words.now) (command_in c.in-Some.command) (g.H.Shelf.state c.args.shelf.now)
    (g.H.Shelf.state c.load.new.shelf) (g.K.Sink.state c.args.sink.now) (g.K.Sink.state c.finish.new.sink) c.in-Ok.task c.in-Ok-finish.status
    (sym c.in-Some.ensures) c.in-Ok.ensures.loaded c.in-Ok-finish.ensures.ended

pub returns-in-Err-Failed-clause-told : goal.returns-in-Err-Failed-clause-told
returns-in-Err-Failed-clause-told g c =
    tells_cut (map string_bytes c.args.words.now) (command_in c.in-Some.command) (g.H.Shelf.state c.args.shelf.now)
    (g.H.Shelf.state c.load.new.shelf) (g.K.Sink.state c.args.sink.now) (g.K.Sink.state c.finish.new.sink) c.in-Ok.task
    (sym c.in-Some.ensures) c.in-Ok.ensures.loaded
    (c.in-Err-Failed.ensures.cut (ap (λ e. Err e) c.in-Err-Failed.field-0-is)) (c.in-Err-Failed.ensures.fault (ap (λ e. Err e) c.in-Err-Failed.field-0-is))

pub returns-in-Err-NoMemory-clause-told : goal.returns-in-Err-NoMemory-clause-told
returns-in-Err-NoMemory-clause-told g c =
    tells_wanting (map string_bytes c.args.words.now) (g.H.Shelf.state c.args.shelf.now)
    (g.H.Shelf.state c.load.new.shelf) (g.K.Sink.state c.args.sink.now) (g.K.Sink.state c.finish.new.sink)
    (c.in-Err-NoMemory.ensures.wanting (ap (λ e. Err e) c.in-Err-NoMemory.field-0-is))

pub returns-in-Err-clause-told : goal.returns-in-Err-clause-told
returns-in-Err-clause-told g c =
    rw c.status_of.ensures
    (tells_stopped (map string_bytes c.args.words.now) (command_in c.in-Some.command) (g.H.Shelf.state c.args.shelf.now)
    (g.H.Shelf.state c.load.new.shelf) (g.K.Sink.state c.args.sink.now) c.in-Err.error (sym c.in-Some.ensures) c.in-Err.ensures.loaded)
