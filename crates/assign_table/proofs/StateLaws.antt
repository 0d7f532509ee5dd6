-- The test of states is an equivalence, and what is looked up among cells after one is written.
use Rattle.std.proofs.Common.{◌≡◌, Bool, true, false, cond, List, [], ◌∷◌, Some, None, if◌then◌else◌, refl, sym, ◌∙◌, ap, subst, true≢false}
use Rattle.std.specs.Cmp.{IsEquivalence}
use Rattle.indexmap.specs.IndexMap.{insert_entry}
use Rattle.extended_plan.proofs.EntryLaws.{same_state, state_eq-itself}
use Rattle.extended_plan.specs.declared.state.State.{State}
use Rattle.extended_plan.specs.States.{state_eq}
use Rattle.assign_table.specs.declared.cell.Cell.{Cell}
use Rattle.assign_table.specs.inside.Cells.{cell_of}

-- where the test of two states fails, it fails the other way round
pub state_eq-apart : (s t : State) → state_eq s t ≡ false → state_eq t s ≡ false
state_eq-apart s t apart = by_test (state_eq t s) refl
  where
    by_test : (b : Bool) → state_eq t s ≡ b → state_eq t s ≡ false
    by_test true is =
        absurd (true≢false (sym (state_eq-itself s) ∙ subst (λ u. state_eq s u ≡ false) (same_state t s is) apart))
    by_test false is = is

pub state_eq-symmetric : (s t : State) → state_eq s t ≡ state_eq t s
state_eq-symmetric s t = by_test (state_eq s t) refl
  where
    by_test : (b : Bool) → state_eq s t ≡ b → state_eq s t ≡ state_eq t s
    by_test true is = is ∙ sym (subst (λ u. state_eq u s ≡ true) (same_state s t is) (state_eq-itself s))
    by_test false is = is ∙ sym (state_eq-apart s t is)

pub state_eq-equivalence : IsEquivalence state_eq
state_eq-equivalence = record {
  refl = state_eq-itself;
  symm = state_eq-symmetric;
  congr = λ s t u same. ap (λ v. state_eq v u) (same_state s t same);
}

-- a cell that is written is that of its state, and the cells of other states stay
pub cell_of-written : (cells : List (State × Cell)) (st : State) (cell : Cell) → cell_of (insert_entry state_eq cells st cell) st ≡ Some cell
cell_of-written [] st cell = ap (λ b. cond b (Some cell) None) (state_eq-itself st)
cell_of-written (e ∷ rest) st cell = by_test (state_eq st e.0) refl (cell_of-written rest st cell)
  where
    by_test : (b : Bool) → state_eq st e.0 ≡ b → cell_of (insert_entry state_eq rest st cell) st ≡ Some cell
        → cell_of (if b then (e.0, cell) ∷ rest else e ∷ insert_entry state_eq rest st cell) st ≡ Some cell
    by_test true is further = ap (λ b. cond b (Some cell) (cell_of rest st)) is
    by_test false is further = ap (λ b. cond b (Some e.1) (cell_of (insert_entry state_eq rest st cell) st)) is ∙ further

pub cell_of-apart : (cells : List (State × Cell)) (st : State) (cell : Cell) (other : State) → state_eq other st ≡ false
    → cell_of (insert_entry state_eq cells st cell) other ≡ cell_of cells other
cell_of-apart [] st cell other apart = ap (λ b. cond b (Some cell) None) apart
cell_of-apart (e ∷ rest) st cell other apart = by_test (state_eq st e.0) refl (cell_of-apart rest st cell other apart)
  where
    by_test : (b : Bool) → state_eq st e.0 ≡ b → cell_of (insert_entry state_eq rest st cell) other ≡ cell_of rest other
        → cell_of (if b then (e.0, cell) ∷ rest else e ∷ insert_entry state_eq rest st cell) other ≡ cell_of (e ∷ rest) other
    by_test true is further =
        let here : state_eq other e.0 ≡ false = subst (λ u. state_eq other u ≡ false) (same_state st e.0 is) apart in
        ap (λ b. cond b (Some cell) (cell_of rest other)) here ∙ sym (ap (λ b. cond b (Some e.1) (cell_of rest other)) here)
    by_test false is further = ap (λ found. cond (state_eq other e.0) (Some e.1) found) further
