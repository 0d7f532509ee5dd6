-- The tables that the steps so far made, each with the term that it stands for. Only the calls of a run speak of these.
use Rattle.std.specs.Prelude.{◌≡◌, ℕ, ◌+◌, true, List, [], ◌∷◌, length, Some}
use Rattle.extended_plan.specs.Setting.{Setting}
use Rattle.extended_plan.specs.States.{state}
use Rattle.extended_plan.specs.Term as term
use Rattle.extended_plan.specs.Term.{Term, spell}
use Rattle.extended_plan.specs.Validity.{runnable}
use Rattle.provider_engine.specs.declared.held.Held.{Held}
use Rattle.provider_engine.specs.Held.{node_of, state_of, table_of}
use Rattle.provider_engine.specs.OfJob.{IsOfJob, IsOpenedBy}
use Rattle.provider_engine.specs.Opening.{seals_of}
use Rattle.provider_engine.specs.Run.{enc_run}
use Rattle.provider_engine.specs.Wide.{NoneIsWide, tree_of_node}
use Rattle.row_algebra.specs.Contents.{Contents}

-- a table stands for a term whose steps stand from a place on in the list: it is of the term's node, state and rows, its columns open,
-- and no node of the term is wide
pub record IsHeldFor (s : Setting) (keys : List (List ℕ)) (contents : Contents) (start : ℕ) (x : Term) (held : Held) : Type 0 where
  pub gives : term.node_of s x ≡ Some (node_of held).0
  pub runs : runnable s x ≡ true
  pub state : state_of held ≡ state s x
  pub rows : table_of held ≡ enc_run s (seals_of s.basis.clusters keys) contents start x
  pub of_job : IsOfJob s held
  pub opened : IsOpenedBy s keys held
  pub narrow : NoneIsWide contents (tree_of_node s.basis.nodes (node_of held).0)

-- so does one whose steps end before a place
pub record IsHeldTo (s : Setting) (keys : List (List ℕ)) (contents : Contents) (place : ℕ) (x : Term) (held : Held) : Type 0 where
  pub start : ℕ
  pub ends : start + length (spell x) ≡ place
  pub stands : IsHeldFor s keys contents start x held

-- tables stand for terms, each for one, whose steps end where those of the next one begin; the last made first
abbrev pub AreHeldTo : Setting → List (List ℕ) → Contents → ℕ → List Term → List Held → Type 0
AreHeldTo s keys contents place [] [] = Unit {0}
AreHeldTo s keys contents place (x ∷ terms) (held ∷ stack) =
    (top : IsHeldTo s keys contents place x held) × AreHeldTo s keys contents top.start terms stack
AreHeldTo s keys contents place _ _ = ⊥
