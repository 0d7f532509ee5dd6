use Rattle.std.proofs.Common.{◌≡◌, string_bytes, bytes_eq}
use Rattle.std.specs.List.{list_any, list_all}
use Rattle.std.specs.Map.{keys_of}
use Rattle.toml_tree.proofs.form.has_only.Given as goal

abbrev pub invariant-loop-key : goal.invariant-loop-key
invariant-loop-key l =
    list_all (λ key. list_any (λ other. bytes_eq other.now (string_bytes key)) l.keys) (keys_of l.table.entries)
    ≡ list_all (λ key. list_any (λ other. bytes_eq other.now (string_bytes key)) l.keys) l.key-iterator
