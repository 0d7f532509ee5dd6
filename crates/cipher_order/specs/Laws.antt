-- What the layers that seal digit strings rest on, as facts about every key and string. docs/CIPHERS.md, "Order-preserving seal".
use Rattle.std.specs.Prelude.{◌≡◌, ℕ, ◌*◌, List, length}
use Rattle.std.specs.Cmp.Lexicographic.{slice_cmp}
use Rattle.std.specs.Ordering.{nat_cmp}
use Rattle.cipher_order.specs.Order.{IsDigits, sealed}

-- a cell has two bytes for each digit
abbrev pub CellsAreTwiceAsLong : Type 0
CellsAreTwiceAsLong = (key digits : List ℕ) → length (sealed key digits) ≡ 2 * length digits

-- cells of strings of one length are ordered, byte by byte, as the strings are
abbrev pub CellsAreOrdered : Type 0
CellsAreOrdered = (key digits other : List ℕ) → length digits ≡ length other → IsDigits digits → IsDigits other
    → slice_cmp nat_cmp (sealed key digits) (sealed key other) ≡ slice_cmp nat_cmp digits other

-- strings of one length have equal cells under one key only where they are equal
abbrev pub CellsDetermine : Type 0
CellsDetermine = (key digits other : List ℕ) → length digits ≡ length other → IsDigits digits → IsDigits other
    → sealed key digits ≡ sealed key other → digits ≡ other
