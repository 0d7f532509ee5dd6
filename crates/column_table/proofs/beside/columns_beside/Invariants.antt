-- The places so far have the first column that is there; the later ones are as they were.
use Rattle.std.proofs.Common.{◌≡◌, ℕ, ◌<◌, ◌≤◌, None, get_or}
use Rattle.std.specs.Option.{option_or}
use Rattle.column_table.proofs.beside.columns_beside.Given as goal

abbrev pub invariant-loop-a : goal.invariant-loop-a
invariant-loop-a l = record {
  done : (k : ℕ) → k < l.a → get_or l.columns k None ≡ option_or (get_or l.fn.columns k None) (get_or l.fn.others k None);
  later : (k : ℕ) → l.a ≤ k → get_or l.columns k None ≡ get_or l.fn.columns k None;
  others : (k : ℕ) → l.a ≤ k → get_or l.others k None ≡ get_or l.fn.others k None;
}
