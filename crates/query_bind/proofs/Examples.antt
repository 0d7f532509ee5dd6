-- Computed examples: what stands under another function earlier, by the rule and as it is gathered.
use Rattle.std.proofs.Common.{◌≡◌, true, false, [], ◌∷◌, refl}
use Rattle.mq_base.specs.declared.query.Agg.TheVariants as agg
use Rattle.base_laws.specs.Lists.{firsts}
use Rattle.query_bind.specs.Bound.{same_attribute}
use Rattle.query_bind.specs.Faults.{is_under_another}

-- in MIN(a), MAX(a), MIN(a) the second and the third use stand under another function earlier
second_use : is_under_another (record { 0 = 0 }) agg.Max ((record { 0 = 0 }, agg.Min) ∷ []) ≡ true
second_use = refl

third_use : is_under_another (record { 0 = 0 }) agg.Min ((record { 0 = 0 }, agg.Min) ∷ (record { 0 = 0 }, agg.Max) ∷ []) ≡ true
third_use = refl

-- while the first of each attribute is one function, which the third use does not clash with
first_function : firsts same_attribute ((record { 0 = 0 }, agg.Min) ∷ (record { 0 = 0 }, agg.Max) ∷ []) ≡ (record { 0 = 0 }, agg.Min) ∷ []
first_function = refl

gathered_use : is_under_another (record { 0 = 0 }) agg.Min ((record { 0 = 0 }, agg.Min) ∷ []) ≡ false
gathered_use = refl
