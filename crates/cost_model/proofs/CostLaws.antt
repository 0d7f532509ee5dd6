-- What the walk over the visible attributes keeps: the bytes so far, and those of the attributes that are left.
use Rattle.std.proofs.Common.{◌≡◌, ℕ, ◌^◌, ◌+◌, ◌<◌, ◌≤◌, Option, Some, None, refl, arith}
use Rattle.std.specs.Prelude.{if◌then◌else◌}
use Rattle.base_laws.specs.Sets.{has, members, without, IsLeastMember}
use Rattle.base_laws.proofs.WalkLaws.{members-few, sum-least, sum-none, sum_bound}
use Rattle.mq_base.specs.declared.table.Scheme.{Scheme}
use Rattle.mq_base.specs.declared.table.Scheme.TheVariants.{Rnd, Det, Ope}
use Rattle.mq_base.specs.declared.value.ValueType.{ValueType}
use Rattle.mq_base.specs.declared.value.ValueType.TheVariants.{Int, Text}
use Rattle.relation_profile.specs.declared.view.View.{View}
use Rattle.key_clusters.specs.Keys.{scheme_at}
use Rattle.cost_model.specs.Costs.{Basis, bytes_at, cells, type_at}
use Rattle.cost_model.specs.Sizes.{cell_bytes}

bytes_few : (ty : ValueType) (sealed : Option Scheme) → cell_bytes ty sealed ≤ 240
bytes_few Int None = omega arith
bytes_few Int (Some Rnd) = omega arith
bytes_few Int (Some Det) = omega arith
bytes_few Int (Some Ope) = omega arith
bytes_few Text None = omega arith
bytes_few Text (Some Rnd) = omega arith
bytes_few Text (Some Det) = omega arith
bytes_few Text (Some Ope) = omega arith

pub cells-few : (base : Basis) (set : ℕ) (view : View) → cells base set view ≤ 15360
cells-few base set view =
    let each : (a : ℕ) → bytes_at base view a ≤ 240 =
    λ a. bytes_few (type_at base.schema a) (if has view.enc.0 a then Some (scheme_at base.clusters a) else None) in
    omega (arith, sum_bound (bytes_at base view) 240 each (members set), members-few set)

pub cells-least : (base : Basis) (view : View) (left next a : ℕ) → a < 64 → IsLeastMember left a → next ≡ without left (2 ^ a)
    → cells base left view ≡ bytes_at base view a + cells base next view
cells-least base view left next a small least is = sum-least (bytes_at base view) left a next small least is

-- one attribute more
pub cells-more : (base : Basis) (view : View) (whole total bytes left next a : ℕ) → whole ≡ total + cells base left view → a < 64
    → IsLeastMember left a → next ≡ without left (2 ^ a) → bytes ≡ bytes_at base view a → whole ≡ total + bytes + cells base next view
cells-more base view whole total bytes left next a so_far small least is here =
    omega (arith, so_far, cells-least base view left next a small least is, here)

-- which fits
pub cells-fit : (base : Basis) (view : View) (set total bytes left a : ℕ) → cells base set view ≡ total + cells base left view → a < 64
    → IsLeastMember left a → bytes ≡ bytes_at base view a → total + bytes ≤ 15360
cells-fit base view set total bytes left a so_far small least here =
    omega (arith, so_far, cells-few base set view, cells-least base view left (without left (2 ^ a)) a small least refl, here)

pub cells-end : (base : Basis) (view : View) (whole total left : ℕ) → whole ≡ total + cells base left view → left ≡ 0 → whole ≡ total
cells-end base view whole total left so_far none = omega (arith, so_far, sum-none (bytes_at base view) left none)
