-- Families of disjoint sets of attributes, each listed in the order of its sets' least members. docs/MODEL.md, "Facts of a node", tells
-- them in prose.
use Rattle.std.specs.Prelude.{◌≡◌, ◌^◌, ◌<◌, ◌==◌, Bool, not, List, [], ◌∷◌, All, filter, bit_and, bit_or}
use Rattle.std.specs.Int.{trailing_zeros, w64}
use Rattle.std.specs.Ordering.{nat_cmp}
use Rattle.std.specs.declared.cmp.Ordering.{Ordering}
use Rattle.base_laws.specs.Sorting.{inserted}
use Rattle.mq_base.specs.declared.attr_set.AttrSet.{AttrSet}
use Rattle.mq_base.specs.declared.ids.AttrId.{AttrId}

-- sets compared by their least members
abbrev pub by_least : AttrSet → AttrSet → Ordering
by_least s t = nat_cmp (trailing_zeros w64 s.0) (trailing_zeros w64 t.0)

-- a family with one set more, at its place
abbrev pub placed : AttrSet → List AttrSet → List AttrSet
placed s family = inserted by_least s family

-- whether two sets have a member in common
abbrev pub meets : AttrSet → AttrSet → Bool
meets s t = not (bit_and s.0 t.0 == 0)

-- the set of two attributes
abbrev pub pair : AttrId → AttrId → AttrSet
pair a b = record { 0 = bit_or (2 ^ a.0) (2 ^ b.0) }

-- a set with the members of each of these
abbrev pub with_all : AttrSet → List AttrSet → AttrSet
with_all s [] = s
with_all s (t ∷ rest) = with_all (record { 0 = bit_or s.0 t.0 }) rest

-- a family in which two attributes are made equivalent: they and all sets that have either become one set
abbrev pub merged : AttrId → AttrId → List AttrSet → List AttrSet
merged a b family = placed (with_all (pair a b) (filter (meets (pair a b)) family)) (filter (λ s. not (meets (pair a b) s)) family)

-- the sets of two families, of which none meets one of the other
abbrev pub united : List AttrSet → List AttrSet → List AttrSet
united family [] = family
united family (s ∷ rest) = united (placed s family) rest

-- a set of a family: it has a member, and each is below 64
pub record IsClass (s : AttrSet) : Type 0 where
  pub some : 0 < s.0
  pub small : s.0 < 2 ^ 64

-- a set before another one: they have no member in common, and its least member is the lower one
pub record IsBefore (s t : AttrSet) : Type 0 where
  pub apart : bit_and s.0 t.0 ≡ 0
  pub lower : trailing_zeros w64 s.0 < trailing_zeros w64 t.0

-- a family: disjoint sets in the order of their least members
abbrev pub IsFamily : List AttrSet → Type 0
IsFamily [] = Unit {0}
IsFamily (s ∷ rest) = IsClass s × All (IsBefore s) rest × IsFamily rest
