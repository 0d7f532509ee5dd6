-- START HERE. The prices that the bytes of a file stand for, or their first fault: what `read_prices` answers.
-- docs/FORMATS.md, "Price file", tells it in prose.
use Rattle.std.specs.Prelude.{ℕ, ℤ, ◌-◌, List, ◌++◌, length, map, replicate, find, unwrap_or, Result, bytes_eq, if◌then◌else◌}
use Rattle.std.specs.Option.{option_map_or}
use Rattle.mq_base.specs.declared.refusal.Refusal.{Refusal}
use Rattle.toml_tree.specs.Outcome.{file_outcome}
use Rattle.policy_base.specs.declared.policy.Policy.{Policy}
use Rattle.policy_base.specs.Accepted.{table_names, attribute_names}
use Rattle.policy_base.specs.declared.prices.Prices.{Prices}
use Rattle.price_reader.specs.declared.raw.Entry.{Entry}
use Rattle.price_reader.specs.declared.raw.Link.{Link}
use Rattle.price_reader.specs.declared.raw.RawPrices.{RawPrices}
use Rattle.price_reader.specs.Shape.{prices_as}
use Rattle.price_reader.specs.Faults.{natural, is_entry, is_link, first_fault}

-- what each of a list gives, and a value past the last, so that there are `size` in all
abbrev pub padded : {A B : Type 0} → ℕ → B → (A → B) → List A → List B
padded size past value xs = map value xs ++ replicate (size - length xs) past

-- a number of the file as it is kept; none that passes the tests is negative
abbrev pub kept : ℤ → ℕ
kept number = unwrap_or (natural number) 0

-- the number that a section has for a name, and for each of these names
abbrev pub number_for : List Entry → List ℕ → ℕ
number_for entries name = option_map_or (λ (entry : Entry). kept entry.number) (find (is_entry name) entries) 0

abbrev pub numbers : ℕ → List (List ℕ) → List Entry → List ℕ
numbers size names entries = padded size 0 (number_for entries) names

-- the price from a subject to a subject: nothing to itself, and else that of the link, or the default
abbrev pub price : ℤ → List Link → List ℕ → List ℕ → ℕ
price default links from to =
    if bytes_eq from to then 0 else option_map_or (λ (link : Link). kept link.price) (find (is_link from to) links) (kept default)

-- the prices from a subject to each, and from each to each
abbrev pub prices_from : List (List ℕ) → ℤ → List Link → List ℕ → List ℕ
prices_from subjects default links from = padded 16 0 (price default links from) subjects

abbrev pub net_prices : List (List ℕ) → ℤ → List Link → List (List ℕ)
net_prices subjects default links = padded 16 (replicate 16 0) (prices_from subjects default links) subjects

-- the prices that the lists stand for, for these subjects, tables and attributes
abbrev pub sections_value : List (List ℕ) → List (List ℕ) → List (List ℕ) → RawPrices → Prices
sections_value subjects tables attributes raw = record {
  cpu = numbers 16 subjects raw.cpu.entries;
  net = net_prices subjects raw.net.default raw.links;
  rows = numbers 8 tables raw.rows.entries;
  distinct = numbers 64 attributes raw.distinct.entries;
}

-- the prices that the lists stand for, for a policy
abbrev pub prices_value : Policy → RawPrices → Prices
prices_value policy raw = sections_value policy.subjects (table_names policy) (attribute_names policy) raw

-- the prices that a file stands for, or its first fault: no document, not the form, or the first fault of its lists
abbrev pub price_outcome : Policy → List ℕ → Result Prices Refusal
price_outcome policy bytes = file_outcome prices_as (first_fault policy) (prices_value policy) bytes
