-- What the walk over grouped attributes keeps: the product so far, times that of the ones that are left, cut.
use Rattle.std.proofs.Common.{◌≡◌, ℕ, ◌^◌, ◌-◌, ◌*◌, ◌<◌, refl, sym, ◌∙◌, ap, arith}
use Rattle.std.proofs.Math.Nat.{mul_assoc, mul-one, one-mul}
use Rattle.base_laws.specs.Sets.{without, IsLeastMember}
use Rattle.base_laws.proofs.NumberLaws.{cut_times}
use Rattle.base_laws.proofs.WalkLaws.{members-empty, members-least}
use Rattle.policy_base.specs.declared.prices.Prices.{Prices}
use Rattle.cost_model.specs.Estimates.{combinations, distinct_of, fit}

-- what is left of a product over a set
abbrev pub combinations_left : Prices → ℕ → ℕ → ℕ
combinations_left prices product left = fit (product * combinations prices left)

pub combinations-start : (prices : Prices) (by : ℕ) → fit (combinations prices by) ≡ combinations_left prices 1 by
combinations-start prices by = ap fit (sym (one-mul (combinations prices by)))

pub combinations-more : (prices : Prices) (product made left next a : ℕ) → a < 64 → IsLeastMember left a → next ≡ without left (2 ^ a)
    → made ≡ fit (product * distinct_of prices a) → combinations_left prices product left ≡ combinations_left prices made next
combinations-more prices product made left next a small least is cut =
    let split : combinations prices left ≡ distinct_of prices a * combinations prices (without left (2 ^ a)) =
    rw (members-least left a small least) refl in
    rw (split, is, cut)
    (ap fit (sym (mul_assoc product (distinct_of prices a) (combinations prices (without left (2 ^ a)))))
    ∙ sym (cut_times (2 ^ 64 - 1) (product * distinct_of prices a) (combinations prices (without left (2 ^ a)))))

pub combinations-end : (prices : Prices) (product left : ℕ) → product < 2 ^ 64 → left ≡ 0 → combinations_left prices product left ≡ product
combinations-end prices product left fits none = rw (none, members-empty, mul-one) (omega (arith, fits))

pub fit-same : (n : ℕ) → n < 2 ^ 64 → fit n ≡ n
fit-same n fits = omega (arith, fits)

pub ruleset fits = (fit-same)
