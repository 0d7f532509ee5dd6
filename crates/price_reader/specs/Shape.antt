-- The form of a price file: the plain lists that a TOML tree stands for, where it has the form.
-- docs/FORMATS.md, "Price file", has the table of keys.
use Rattle.std.specs.Prelude.{ℕ, List, [], ◌∷◌, Option, Some, None, codes, if◌then◌else◌}
use Rattle.toml.specs.Data.{Data, Members, no_members, member, as_str, as_integer, as_table}
use Rattle.toml_tree.specs.Form.{◌>>=◌, has_only, field, list_field, list_as, version_as}
use Rattle.price_reader.specs.declared.raw.Entry.{Entry}
use Rattle.price_reader.specs.declared.raw.Section.{Section}
use Rattle.price_reader.specs.declared.raw.Net.{Net}
use Rattle.price_reader.specs.declared.raw.Link.{Link}
use Rattle.price_reader.specs.declared.raw.RawPrices.{RawPrices}

-- the entries of a table from names to integers, in the byte order of the names, as a table has its keys
abbrev pub entry_as : List ℕ → Data → Option Entry
entry_as key value = as_integer value >>= (λ number. Some (record { name = key; number = number }))

abbrev pub members_as : Members → Option (List Entry)
members_as no_members = Some []
members_as (member key value rest) = entry_as key value >>= (λ first. members_as rest >>= (λ others. Some (first ∷ others)))

-- a section from names to integers
abbrev pub section_as : Data → Option Section
section_as value = as_table value >>= (λ entries. members_as entries >>= (λ entries. Some (record { entries = entries })))

-- the section `net`: exactly a default
abbrev pub net_of : Members → Option Net
net_of entries = field as_integer (codes "default") entries >>= (λ price. Some (record { default = price }))

abbrev pub net_as : Data → Option Net
net_as value = as_table value >>= (λ entries. if has_only (codes "default" ∷ []) entries then net_of entries else None)

-- a link: exactly two names and a price
abbrev pub link_of : Members → Option Link
link_of entries =
    field as_str (codes "from") entries >>= (λ from.
    field as_str (codes "to") entries >>= (λ to.
    field as_integer (codes "price") entries >>= (λ price.
    Some (record { from = from; to = to; price = price }))))

abbrev pub link_as : Data → Option Link
link_as value = as_table value >>= (λ entries.
    if has_only (codes "from" ∷ codes "to" ∷ codes "price" ∷ []) entries then link_of entries else None)

-- a whole price file: a version, the sections, and links that may be missing
abbrev pub prices_of : Members → Option RawPrices
prices_of entries =
    field version_as (codes "version") entries >>= (λ _.
    field section_as (codes "cpu") entries >>= (λ cpu.
    field net_as (codes "net") entries >>= (λ net.
    list_field (list_as link_as) (codes "link") entries >>= (λ links.
    field section_as (codes "rows") entries >>= (λ rows.
    field section_as (codes "distinct") entries >>= (λ distinct.
    Some (record { cpu = cpu; net = net; links = links; rows = rows; distinct = distinct })))))))

abbrev pub prices_as : Data → Option RawPrices
prices_as value = as_table value >>= (λ entries.
    if has_only (codes "version" ∷ codes "cpu" ∷ codes "net" ∷ codes "rows" ∷ codes "distinct" ∷ codes "link" ∷ []) entries
    then prices_of entries else None)
