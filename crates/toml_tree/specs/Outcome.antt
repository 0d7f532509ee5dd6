-- What a TOML file comes to: the value that its lists stand for, or its first refusal. docs/FORMATS.md states the
-- refusals of each file; the numbers 1 and 2 are the same in all.
use Rattle.std.specs.Prelude.{ℕ, List, Option, Some, None, Result, Ok, Err, option_map, if◌then◌else◌}
use Rattle.std.specs.Option.{ok_or}
use Rattle.std.specs.Str.{is_utf8}
use Rattle.toml.specs.Data.{Data, table}
use Rattle.toml.specs.Parse.{parse_document}
use Rattle.base_laws.specs.Firsts.{judged}
use Rattle.mq_base.specs.declared.refusal.Refusal.{Refusal}
use Rattle.mq_base.specs.Refusal.{refusal}
use Rattle.toml_tree.specs.declared.error.DocumentNo.{DocumentNo}
use Rattle.toml_tree.specs.declared.error.DocumentNo.TheVariants.{Syntax, Shape, NoMemory}

-- the refusal of bytes that are no document, and of a document that has not the form
abbrev pub syntax_refusal : Refusal
syntax_refusal = refusal 1 0 0

abbrev pub shape_refusal : Refusal
shape_refusal = refusal 2 0 0

-- the refusal that an error is; want of memory is none
abbrev pub told : DocumentNo → Option Refusal
told Syntax = Some syntax_refusal
told Shape = Some shape_refusal
told NoMemory = None

-- the tree of a file: its bytes are UTF-8 and a TOML document, which is a table
unfoldable pub tree_of : List ℕ → Option Data
tree_of bytes = if is_utf8 bytes then option_map table (parse_document bytes) else None

-- the lists of a tree, where there is one and it has the form
abbrev pub tree_outcome : {L : Type 0} → (Data → Option L) → Option Data → Result L Refusal
tree_outcome form None = Err syntax_refusal
tree_outcome form (Some tree) = ok_or (form tree) shape_refusal

-- the lists of a file
abbrev pub lists_outcome : {L : Type 0} → (Data → Option L) → List ℕ → Result L Refusal
lists_outcome form bytes = tree_outcome form (tree_of bytes)

-- the value of lists that have the form, or their first fault
abbrev pub judged_lists : {L X : Type 0} → (L → Option Refusal) → (L → X) → Result L Refusal → Result X Refusal
judged_lists fault value (Ok lists) = judged (fault lists) (value lists)
judged_lists fault value (Err refusal) = Err refusal

-- what a file comes to: it is no document, or has not the form, or its lists have a first fault, or they stand for a value
abbrev pub file_outcome : {L X : Type 0} → (Data → Option L) → (L → Option Refusal) → (L → X) → List ℕ → Result X Refusal
file_outcome form fault value bytes = judged_lists fault value (lists_outcome form bytes)
