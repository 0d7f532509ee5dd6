-- Which comparisons sealed cells support. docs/MODEL.md, "Runnable", tells it in prose.
use Rattle.std.specs.Prelude.{ℕ, Bool, true, false, List, slice_get}
use Rattle.std.specs.Option.{option_map_or}
use Rattle.mq_base.specs.declared.query.CmpOp.{CmpOp}
use Rattle.mq_base.specs.declared.query.CmpOp.TheVariants.{Eq, Ne}
use Rattle.mq_base.specs.declared.table.Scheme.{Scheme}
use Rattle.mq_base.specs.declared.table.Scheme.TheVariants.{Det, Ope}

-- whether cells under a scheme support a comparison: deterministic ones equality, order-preserving ones every comparison,
-- randomised ones none
abbrev pub supports : Scheme → CmpOp → Bool
supports Ope op = true
supports Det Eq = true
supports Det Ne = true
supports _ op = false

-- whether the scheme of an attribute supports a comparison, where each attribute has the scheme at its place
abbrev pub offers : List Scheme → CmpOp → ℕ → Bool
offers schemes op a = option_map_or (λ scheme. supports scheme op) (slice_get schemes a) false
