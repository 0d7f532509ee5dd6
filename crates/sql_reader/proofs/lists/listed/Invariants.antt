use Rattle.std.proofs.Common.{◌≡◌, ◌-◌, ◌∷◌, map, length}
use Rattle.sql_reader.specs.Marks.{is_one_of}
use Rattle.sql_reader.specs.Readers.{bind, give, many}
use Rattle.sql_reader.specs.inside.Answers.{left, wide_in}
use Rattle.sql_reader.proofs.LoopLaws.{Stands}
use Rattle.sql_reader.proofs.lists.listed.Given as goal

abbrev pub invariant-each : goal.invariant-each
invariant-each g l =
    (Stands (bind (many (is_one_of l.marks) g.P.Phrase.further.read) (λ xs. give (g.P.Phrase.plain l.fn.first ∷ xs)) (left l.tokens l.fn.from))
    (is_one_of l.marks) g.P.Phrase.further.read (map g.P.Phrase.plain l.found) (length l.tokens - l._turn) (left l.tokens l.after))
    × (wide_in l.after.wide (left l.tokens l.after) ≡ wide_in l.fn.from.wide (left l.tokens l.fn.from))
