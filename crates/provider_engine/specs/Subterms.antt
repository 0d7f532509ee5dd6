-- The subterms of an extended plan, and what is said of the tables of each: they decode to the plain meaning, and columns that the holder
-- may see in no form do not matter. docs/MODEL.md, "Encoded run", tells it in prose.
use Rattle.std.specs.Prelude.{◌≡◌, ℕ, ◌+◌, ◌<◌, ◌^◌, List, [], ◌∷◌, ◌++◌, length, map, Some}
use Rattle.std.specs.List.{AllByRecursion}
use Rattle.column_table.specs.Cells.{Seals}
use Rattle.extended_plan.specs.Setting.{Setting}
use Rattle.extended_plan.specs.Term.{Term, Leaf, Enc, Dec, Send, Un, Bin, holder, node_of, spell}
use Rattle.extended_plan.specs.Validity.{IsValid}
use Rattle.plan_algebra.specs.Meaning.{node_rows}
use Rattle.provider_engine.specs.Agreement.{Agree}
use Rattle.provider_engine.specs.Decoding.{IsRun}
use Rattle.provider_engine.specs.Opening.{seals_of}
use Rattle.provider_engine.specs.Run.{decoded, enc_run}
use Rattle.provider_engine.specs.Wide.{NoneIsWide, tree_of_node}
use Rattle.row_algebra.specs.Contents.{Contents, HaveForm}
use Rattle.row_algebra.specs.Values.{value_tests}

-- a subterm, and the place of its first step
pub record Part : Type 0 where
  pub start : ℕ
  pub term : Term

-- a term as a part
abbrev pub part : ℕ → Term → Part
part start x = record { start = start; term = x }

-- the subterms of a term whose steps stand from a place on, each at the place of its last step
abbrev pub parts_from : ℕ → Term → List Part
parts_from start (Leaf t) = part start (Leaf t) ∷ []
parts_from start (Enc a x) = parts_from start x ++ part start (Enc a x) ∷ []
parts_from start (Dec a x) = parts_from start x ++ part start (Dec a x) ∷ []
parts_from start (Send to x) = parts_from start x ++ part start (Send to x) ∷ []
parts_from start (Un n x) = parts_from start x ++ part start (Un n x) ∷ []
parts_from start (Bin n x y) = parts_from start x ++ parts_from (start + length (spell x)) y ++ part start (Bin n x y) ∷ []

-- the table of a subterm, decoded, has the rows of the node that it gives, where none of that node's nodes is wide
pub record Decodes (s : Setting) (keys : List (List ℕ)) (contents : Contents) (p : Part) : Type 0 where
  pub node : ℕ
  pub gives : node_of s p.term ≡ Some node
  pub decodes : NoneIsWide contents (tree_of_node s.basis.nodes node)
      → map (decoded (seals_of s.basis.clusters keys)) (enc_run s (seals_of s.basis.clusters keys) contents p.start p.term)
      ≡ node_rows value_tests contents s.basis.nodes node

-- so has that of each subterm of a valid extended plan of fewer than 2^32 steps
abbrev pub ValidPlansDecode : Type 0
ValidPlansDecode = (s : Setting) (keys : List (List ℕ)) (contents : Contents) → IsRun s keys contents → (x : Term) → IsValid s x
    → length (spell x) < 2 ^ 32 → AllByRecursion (Decodes s keys contents) (parts_from 0 x)

-- the table of a subterm is the same over contents that agree for its holder
abbrev pub IsHeldAlike : Setting → Seals → Contents → Contents → Part → Type 0
IsHeldAlike s seals contents others p =
    Agree s (holder s p.term) contents others → enc_run s seals contents p.start p.term ≡ enc_run s seals others p.start p.term

-- so is that of each subterm of a valid extended plan
abbrev pub HiddenColumnsDoNotMatterToHolders : Type 0
HiddenColumnsDoNotMatterToHolders = (s : Setting) (seals : Seals) (contents others : Contents) → HaveForm s.policy.schema contents
    → HaveForm s.policy.schema others → (x : Term) → IsValid s x
    → AllByRecursion (IsHeldAlike s seals contents others) (parts_from 0 x)
