use Rattle.std.proofs.Common.{◌≡◌, map, take}
use Rattle.mq_base.specs.declared.schema.TableInfo.{TableInfo}
use Rattle.price_reader.proofs.read.table_names.Given as goal

abbrev pub invariant-loop-table : goal.invariant-loop-table
invariant-loop-table l = l.names ≡ map (λ (info : TableInfo). info.name) (take l.table-index l.tables)
