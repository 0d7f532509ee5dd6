-- Laws of grants: where the ids of a table's columns begin, and the set of one column.
use Rattle.std.proofs.Common.{◌≡◌, ℕ, ◌+◌, ◌^◌, ◌<◌, ◌≤◌, List, length, get_or}
use Rattle.std.proofs.lemmas.List.Sums.{sum_by-take-le, sum_by_more_le}
use Rattle.std.specs.Int.Bits.{or_zero_l}
use Rattle.base_laws.specs.Sets.{with_member}
use Rattle.policy_reader.specs.declared.raw.RawTable.{RawTable}
use Rattle.policy_reader.specs.Faults.{column_count}
use Rattle.policy_reader.specs.Grants.{first_id}
use Rattle.policy_reader.proofs.RuleLaws.{column_below}

-- the columns of the first tables are no more than those of all
pub first_id-le : (tables : List RawTable) (t : ℕ) → first_id tables t ≤ column_count tables
first_id-le tables t = sum_by-take-le (λ (table : RawTable). length table.columns) tables t

-- the ids of a table are within those of all tables
pub first_id-fits : (tables : List RawTable) (t : ℕ) (d : RawTable) → t < length tables
    → first_id tables t + length (get_or tables t d).columns ≤ column_count tables
first_id-fits tables t d below = sum_by_more_le (λ (table : RawTable). length table.columns) tables t d below

pub ruleset firsts = (first_id-le, first_id-fits)

-- the set of one member
pub alone : (i : ℕ) → with_member 0 i ≡ 2 ^ i
alone i = or_zero_l (2 ^ i)

pub ruleset singles = (alone, column_below)
