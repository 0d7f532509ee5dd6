-- Laws of the set of an attribute: one set of the family on and at the end.
use Rattle.std.proofs.Common.{◌≡◌, ℕ, ◌^◌, ◌+◌, ◌<◌, ◌≤◌, Bool, true, false, cond, List, [], ◌∷◌, length, get_or, drop, refl}
use Rattle.std.proofs.lemmas.List.{drop_more, drop_all}
use Rattle.std.proofs.Math.Pow.{pow-lt}
use Rattle.std.proofs.lemmas.Nat.{pow_pos}
use Rattle.base_laws.specs.Sets.{has, IsLeastMember}
use Rattle.base_laws.proofs.SetLaws.{least_from_lowest}
use Rattle.mq_base.specs.declared.attr_set.AttrSet.{AttrSet}
use Rattle.plan_algebra.specs.Families.{IsClass, IsFamily}
use Rattle.key_clusters.specs.Clusters.{least_of, set_of}

pub set-more : (family : List AttrSet) (a i : ℕ) (d : AttrSet) → i < length family → has (get_or family i d).0 a ≡ false
    → set_of (drop i family) a ≡ set_of (drop (i + 1) family) a
set-more family a i d below out = rw (drop_more family i d below, out) refl

pub set-here : (family : List AttrSet) (a i : ℕ) (d : AttrSet) → i < length family → has (get_or family i d).0 a ≡ true
    → set_of (drop i family) a ≡ get_or family i d
set-here family a i d below inside = rw (drop_more family i d below, inside) refl

pub set-end : (family : List AttrSet) (a i : ℕ) → length family ≤ i → set_of (drop i family) a ≡ record { 0 = 2 ^ a }
set-end family a i past = rw (drop_all i family past) refl

pub ruleset sets = (set-more, set-here, set-end)

-- the set of an attribute has members, and each is below 64
set_class : (family : List AttrSet) (a : ℕ) → a < 64 → IsFamily family → IsClass (set_of family a)
set_class [] a small fam = record { some = pow_pos a; small = pow-lt small }
set_class (s ∷ rest) a small fam = by_test (has s.0 a) (set_class rest a small fam.2)
  where
    by_test : (b : Bool) → IsClass (set_of rest a) → IsClass (cond b s (set_of rest a))
    by_test true later = fam.0
    by_test false later = later

-- so a cluster is its least member
pub cluster-least : (family : List AttrSet) (a : ℕ) → a < 64 → IsFamily family → IsLeastMember (set_of family a).0 (least_of (set_of family a)).0
cluster-least family a small fam =
    let class = set_class family a small fam in
    least_from_lowest (set_of family a).0 class.some class.small
