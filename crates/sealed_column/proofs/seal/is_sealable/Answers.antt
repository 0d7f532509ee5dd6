use Rattle.std.proofs.Common.{◌≡◌, ℕ, ◌<◌, List, sym, subst}
use Rattle.std.specs.List.{All}
use Rattle.mq_base.specs.declared.value.Value.{Value}
use Rattle.mq_base.specs.declared.value.Value.TheVariants.{Text}
use Rattle.mq_base.specs.Bytes.{IsShort}
use Rattle.sealed_column.specs.Seal.{IsSealable}
use Rattle.sealed_column.proofs.seal.is_sealable.Goals as goal

text_is : (v : Value) (t bytes : List ℕ) → v ≡ Text t → IsShort v → bytes ≡ t → All (λ byte. byte < 256) bytes → IsSealable v
text_is v t bytes is short same all =
    subst (λ (u : Value). IsSealable u) (sym is)
    (record { fits = record { short = rw is at short; representable = tt }; bytes = rw same at all })

pub returns-in-Text : goal.returns-in-Text
returns-in-Text c =
    text_is c.args.value.now c.in-Text.text c.as_bytes.result.now c.in-Text.is c.requires c.as_bytes.ensures c.are_bytes.ensures
