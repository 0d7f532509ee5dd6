-- The tests of a price file, each a fault or a pass at its place. docs/FORMATS.md, "Price file", lists them in the order
-- in which the first fault is told.
use Rattle.std.specs.Prelude.{ℕ, ℤ, pos, negsuc, Bool, not, ◌&&◌, ◌||◌, true, nat_lt, List, length, take, Option, Some, None, bytes_eq, if◌then◌else◌}
use Rattle.std.specs.List.{list_any}
use Rattle.std.specs.Option.{option_map_or, option_or}
use Rattle.base_laws.specs.Firsts.{first_at, test_at}
use Rattle.mq_base.specs.declared.refusal.Refusal.{Refusal}
use Rattle.mq_base.specs.Refusal.{refusal}
use Rattle.policy_base.specs.declared.policy.Policy.{Policy}
use Rattle.policy_base.specs.Accepted.{table_names, attribute_names}
use Rattle.policy_base.specs.Names.{is_one_of}
use Rattle.price_reader.specs.declared.raw.Entry.{Entry}
use Rattle.price_reader.specs.declared.raw.Link.{Link}
use Rattle.price_reader.specs.declared.raw.RawPrices.{RawPrices}
use Rattle.price_reader.specs.declared.refusal.PriceCode.{PriceCode}
use Rattle.price_reader.specs.declared.refusal.PriceCode.TheVariants.{UnknownName, OutOfRange, Missing, BadLink}
use Rattle.price_reader.specs.Codes.{number_of}

-- a fault with its places
abbrev pub fault : PriceCode → ℕ → ℕ → Option Refusal
fault code at item = Some (refusal (number_of code) at item)

-- a number that is not negative
abbrev pub natural : ℤ → Option ℕ
natural (pos n) = Some n
natural (negsuc n) = None

-- whether a number is out of range: negative, or below the least one
abbrev pub is_out : ℕ → ℤ → Bool
is_out least number = option_map_or (λ n. nat_lt n least) (natural number) true

-- whether an entry is this name's, and a link this pair's
abbrev pub is_entry : List ℕ → Entry → Bool
is_entry name entry = bytes_eq entry.name name

abbrev pub is_link : List ℕ → List ℕ → Link → Bool
is_link from to link = bytes_eq link.from from && bytes_eq link.to to

-- an entry of the section `at`: its name is none of these, or its number is out of range
abbrev pub entry_fault : List (List ℕ) → ℕ → ℕ → List Entry → ℕ → Option Refusal
entry_fault names least at entries item = test_at
    (λ (entry : Entry). if not (is_one_of entry.name names) then fault UnknownName at item
    else if is_out least entry.number then fault OutOfRange at item else None)
    entries item

-- the name with the id `item` has no entry
abbrev pub missing_fault : List (List ℕ) → ℕ → List Entry → ℕ → Option Refusal
missing_fault names at entries item = test_at
    (λ name. if not (list_any (is_entry name) entries) then fault Missing at item else None) names item

-- a section: its entries in the byte order of their names, and then the names without an entry, by their ids
abbrev pub section_fault : List (List ℕ) → ℕ → ℕ → List Entry → Option Refusal
section_fault names least at entries =
    option_or (first_at (entry_fault names least at entries) 0 (length entries))
    (first_at (missing_fault names at entries) 0 (length names))

-- the default price
abbrev pub net_fault : ℤ → Option Refusal
net_fault default = if is_out 0 default then fault OutOfRange 1 0 else None

-- a link: a subject that is unknown, no pair of two, a pair that stands earlier, or a price out of range
abbrev pub link_fault : List (List ℕ) → List Link → ℕ → Option Refusal
link_fault subjects links item = test_at
    (λ (link : Link). if not (is_one_of link.from subjects) || not (is_one_of link.to subjects) then fault UnknownName 2 item
    else if bytes_eq link.from link.to || list_any (is_link link.from link.to) (take item links) then fault BadLink 2 item
    else if is_out 0 link.price then fault OutOfRange 2 item else None)
    links item

abbrev pub links_fault : List (List ℕ) → List Link → Option Refusal
links_fault subjects links = first_at (link_fault subjects links) 0 (length links)

-- the first fault of the sections cpu, net, link, rows and distinct, in this order, for these subjects, tables and attributes
abbrev pub sections_fault : List (List ℕ) → List (List ℕ) → List (List ℕ) → RawPrices → Option Refusal
sections_fault subjects tables attributes raw =
    option_or (section_fault subjects 0 0 raw.cpu.entries)
    (option_or (net_fault raw.net.default)
    (option_or (links_fault subjects raw.links)
    (option_or (section_fault tables 0 3 raw.rows.entries)
    (section_fault attributes 1 4 raw.distinct.entries))))

-- the first fault of a price file for a policy
abbrev pub first_fault : Policy → RawPrices → Option Refusal
first_fault policy raw = sections_fault policy.subjects (table_names policy) (attribute_names policy) raw
