-- What a walk over the entries of a table has read so far.
use Rattle.std.proofs.Common.{◌≡◌, List, [], ◌∷◌, ◌++◌, Some, String, Global, string_bytes}
use Rattle.toml.specs.View.{view, members_view}
use Rattle.toml.specs.declared.value.Value.{Value}
use Rattle.toml_tree.proofs.FormLaws.{after, after-one}
use Rattle.price_reader.specs.declared.raw.Entry.{Entry}
use Rattle.price_reader.specs.Shape.{entry_as, members_as}

-- past an entry with an integer
pub entries_more : (done : List Entry) (key : String Global) (value : Value) (rest : List (String Global × Value)) (first : Entry) (made : List Entry)
    → entry_as (string_bytes key) (view value) ≡ Some first → made ≡ done ++ first ∷ []
    → after done (members_as (members_view ((key, value) ∷ rest))) ≡ after made (members_as (members_view rest))
entries_more done key value rest first made found made_is =
    rw (found, made_is) (after-one done first (members_as (members_view rest)))
