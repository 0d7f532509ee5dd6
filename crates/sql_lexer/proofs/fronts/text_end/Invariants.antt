use Rattle.std.proofs.Common.{◌≡◌, ◌≤◌, ◌-◌, length, drop}
use Rattle.sql_lexer.specs.Lexing.{text_end}
use Rattle.sql_lexer.proofs.TextEnds.{past}
use Rattle.sql_lexer.proofs.fronts.text_end.Given as goal

abbrev pub invariant-loop-at : goal.invariant-loop-at
invariant-loop-at l = record {
  within : l.at ≤ length l.bytes;
  found : text_end l.bytes ≡ past l.at (text_end (drop l.at l.bytes));
}

abbrev pub decreases-loop-at : goal.decreases-loop-at
decreases-loop-at l = length l.bytes - l.at
