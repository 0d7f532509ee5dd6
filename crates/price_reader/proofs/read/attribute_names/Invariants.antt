use Rattle.std.proofs.Common.{◌≡◌, map, take}
use Rattle.mq_base.specs.declared.schema.AttrInfo.{AttrInfo}
use Rattle.price_reader.proofs.read.attribute_names.Given as goal

abbrev pub invariant-loop-attribute : goal.invariant-loop-attribute
invariant-loop-attribute l = l.names ≡ map (λ (info : AttrInfo). info.name) (take l.attribute-index l.attributes)
