-- Blocks stay done when the arena grows by the block of the next node.
use Rattle.std.proofs.Common.{◌≡◌, ℕ, ◌+◌, ◌≤◌, ◌<◌, List, [], ◌∷◌, ◌++◌, length, Option, Some, None, ◌⊎◌, inl, inr, refl, sym, ◌∙◌, ap, arith}
use Rattle.std.specs.Prelude.{IfSome}
use Rattle.std.proofs.lemmas.List.{get_or_append_left, get_or_push, length-append}
use Rattle.std.proofs.Math.Path.{subst}
use Rattle.plan_algebra.specs.declared.kind.Kind.{Kind}
use Rattle.plan_algebra.specs.declared.kind.Kind.TheVariants as kind
use Rattle.plan_algebra.specs.Facts.{IsNodeAt}
use Rattle.extended_plan.specs.declared.state.State.{State}
use Rattle.extended_plan.specs.Gains.{Gain, dec_gain, enc_gain, leaf_gain, one_gain, send_gain, two_gain}
use Rattle.extended_plan.specs.Ready.{IsReady}
use Rattle.extended_plan.specs.Setting.{Setting, kind_at, known_at, op_at}
use Rattle.extended_plan.specs.States.{state_eq}
use Rattle.assign_table.specs.declared.way.Settled.{Settled}
use Rattle.assign_table.specs.inside.Blocks.{AreBlocks, AreDone, IsArrived, IsAttainedAt, IsBlock, IsGainSettled, IsPlaceOf, IsSettledAt, base_of, start_of}
use Rattle.extended_plan.specs.Spans.{first_of}
use Rattle.assign_table.specs.inside.Ways.{IsAttained, settled_at}
use Rattle.assign_table.proofs.PlaceLaws.{starts_low}
use Rattle.extended_plan.proofs.SpanLaws.{first_low}
use Rattle.assign_table.proofs.WayLaws.{attained_grown}

-- what is said of each gain is said of it in other words
pub each_weaker : {X : Type 0} (gained : Option X) (P Q : X → Type 0) → ((x : X) → P x → Q x) → IfSome gained P → IfSome gained Q
each_weaker None P Q weaker is = tt
each_weaker (Some x) P Q weaker is = weaker x is

module _ (arena more : List Settled) (starts : List ℕ) (n next : ℕ) (blocks : AreBlocks arena starts n) where
  abbrev later : List ℕ
  later = starts ++ next ∷ []

  -- the arena and the starts after the growth have what they had
  pub same_settled : (w : ℕ) → w < length arena → settled_at (arena ++ more) w ≡ settled_at arena w
  same_settled w below = get_or_append_left arena more (settled_at [] 0) w below

  pub same_start : (m : ℕ) → m ≤ n → start_of later m ≡ start_of starts m
  same_start m low = get_or_append_left starts (next ∷ []) 0 m (omega (arith, blocks.each, low))

  pub place_before : (m w : ℕ) → m < n → IsPlaceOf later m w → IsPlaceOf starts m w
  place_before m w below at = record {
    low = omega (arith, at.low, same_start m (omega (arith, below)));
    high = omega (arith, at.high, same_start (m + 1) (omega (arith, below)));
  }

  pub place_inside : (m w : ℕ) → m < n → IsPlaceOf starts m w → w < length arena
  place_inside m w below at = omega (arith, at.high, starts_low arena starts n blocks (m + 1) (omega (arith, below)))

  settled_kept : (m : ℕ) (st : State) (most : ℕ) → m < n → IsSettledAt arena starts m st most → IsSettledAt (arena ++ more) later m st most
  settled_kept m st most below is =
      let same : settled_at (arena ++ more) is.place ≡ settled_at arena is.place = same_settled is.place (place_inside m is.place below is.inside) in
      record {
        place = is.place;
        inside = record {
          low = omega (arith, is.inside.low, same_start m (omega (arith, below)));
          high = omega (arith, is.inside.high, same_start (m + 1) (omega (arith, below)));
        };
        same = ap (λ (e : Settled). e.state) same ∙ is.same;
        enough = omega (arith, ap (λ (e : Settled). e.label) same, is.enough);
      }

  -- what one settled state gains
  one_kept : (m w : ℕ) (gains : State → Option Gain) → m < n → w < length arena
      → IfSome (gains (settled_at arena w).state) (IsGainSettled arena starts m (settled_at arena w).label)
      → IfSome (gains (settled_at (arena ++ more) w).state) (IsGainSettled (arena ++ more) later m (settled_at (arena ++ more) w).label)
  one_kept m w gains below inside is =
      subst (λ (e : Settled). IfSome (gains e.state) (IsGainSettled (arena ++ more) later m e.label)) (sym (same_settled w inside))
      (each_weaker (gains (settled_at arena w).state) _ _ (λ gain there. settled_kept m gain.state _ below there) is)

  two_kept : (m v w : ℕ) (gains : State → State → Option Gain) → m < n → v < length arena → w < length arena
      → IfSome (gains (settled_at arena v).state (settled_at arena w).state) (IsGainSettled arena starts m ((settled_at arena v).label + (settled_at arena w).label))
      → IfSome (gains (settled_at (arena ++ more) v).state (settled_at (arena ++ more) w).state)
      (IsGainSettled (arena ++ more) later m ((settled_at (arena ++ more) v).label + (settled_at (arena ++ more) w).label))
  two_kept m v w gains below inside inside_too is =
      subst (λ (e : Settled). IfSome (gains e.state (settled_at (arena ++ more) w).state) (IsGainSettled (arena ++ more) later m (e.label + (settled_at (arena ++ more) w).label)))
      (sym (same_settled v inside))
      (subst (λ (f : Settled). IfSome (gains (settled_at arena v).state f.state) (IsGainSettled (arena ++ more) later m ((settled_at arena v).label + f.label)))
      (sym (same_settled w inside_too))
      (each_weaker (gains (settled_at arena v).state (settled_at arena w).state) _ _ (λ gain there. settled_kept m gain.state _ below there) is))

  -- what arrives at a node whose operands stand before it
  arrived_kept : (s : Setting) (m : ℕ) (k : Kind) → m < n → IsNodeAt (known_at s) m (op_at s m) k → IsArrived s arena starts m k
      → IsArrived s (arena ++ more) later m k
  arrived_kept s m kind.Leaf below node is = λ t gives.
      each_weaker (leaf_gain s t) _ _ (λ st there. settled_kept m st 0 below there) (is t gives)
  arrived_kept s m (kind.One x) below node is = λ w at.
      let before : x.0 < n = omega (arith, node.below, below) in
      let old = place_before x.0 w before at in
      one_kept m w (one_gain s (record { 0 = m })) below (place_inside x.0 w before old) (is w old)
  arrived_kept s m (kind.Two x y) below node is = λ v w at at_too.
      let before : x.0 < n = omega (arith, node.left_below, node.right_below, below) in
      let before_too : y.0 < n = omega (arith, node.right_below, below) in
      let old = place_before x.0 v before at in
      let old_too = place_before y.0 w before_too at_too in
      two_kept m v w (two_gain s (record { 0 = m })) below (place_inside x.0 v before old) (place_inside y.0 w before_too old_too) (is v w old old_too)

  -- the block of a node before the next
  pub block_kept : (s : Setting) → IsReady s → (m : ℕ) → m < n → n ≤ length s.basis.nodes → IsBlock s arena starts m
      → IsBlock s (arena ++ more) later m
  block_kept s ready m below inside is = record {
    attained = λ w at.
        let old = place_before m w below at in
        let first : first_of s.basis.nodes m ≤ n = omega (arith, first_low s ready m (omega (arith, below, inside)), below) in
        subst (λ base. IsAttainedAt s (arena ++ more) m base w) (sym (same_start (first_of s.basis.nodes m) first))
        (subst (λ (e : Settled). IsAttained s (arena ++ more) m (base_of s starts m) (w + 1) e.state e.label e.way) (sym (same_settled w (place_inside m w below old)))
        (attained_grown s arena more m (base_of s starts m) (w + 1) (w + 1) _ _ _ (omega arith) (is.attained w old)));
    differ = λ v w at at_too less.
        let old = place_before m v below at in
        let old_too = place_before m w below at_too in
        ap (λ (e : Settled). state_eq e.state (settled_at (arena ++ more) w).state) (same_settled v (place_inside m v below old))
        ∙ ap (λ (e : Settled). state_eq (settled_at arena v).state e.state) (same_settled w (place_inside m w below old_too))
        ∙ is.differ v w old old_too less;
    closed = record {
      enc = λ w a at. let old = place_before m w below at in one_kept m w (enc_gain s m a) below (place_inside m w below old) (is.closed.enc w a old);
      dec = λ w a at. let old = place_before m w below at in one_kept m w (dec_gain s m a) below (place_inside m w below old) (is.closed.dec w a old);
      send = λ w to at. let old = place_before m w below at in one_kept m w (send_gain s m to) below (place_inside m w below old) (is.closed.send w to old);
      arrived = arrived_kept s m (kind_at s m) below (ready.facts.node m (omega (arith, below, inside))) is.closed.arrived;
    };
  }

-- the block of the next node is added
pub done_more : (s : Setting) → IsReady s → (arena more : List Settled) (starts : List ℕ) (n : ℕ) → n < length s.basis.nodes → AreDone s arena starts n
    → length (arena ++ more) ≤ 200000 → IsBlock s (arena ++ more) (starts ++ length (arena ++ more) ∷ []) n
    → AreDone s (arena ++ more) (starts ++ length (arena ++ more) ∷ []) (n + 1)
done_more s ready arena more starts n inside done few block = record {
  blocks = record {
    each = length-append starts ((length (arena ++ more)) ∷ []) ∙ ap (λ k. k + 1) done.blocks.each;
    begin = same_start arena more starts n (length (arena ++ more)) done.blocks 0 (omega arith) ∙ done.blocks.begin;
    rise = λ m below. rises m (two_places m n below);
    end = last_start;
  };
  few = few;
  block = λ m below. each m (two_places m n below);
}
  where
    two_places : (m n : ℕ) → m < n + 1 → (m < n) ⊎ (m ≡ n)
    two_places m n below = grind arith

    last_start : start_of (starts ++ (length (arena ++ more)) ∷ []) (n + 1) ≡ (length (arena ++ more))
    last_start = get_or_push starts (length (arena ++ more)) 0 (n + 1) done.blocks.each

    rises : (m : ℕ) → (m < n) ⊎ (m ≡ n) → start_of (starts ++ (length (arena ++ more)) ∷ []) m ≤ start_of (starts ++ (length (arena ++ more)) ∷ []) (m + 1)
    rises m (inl before) =
        omega (
          arith,
          same_start arena more starts n (length (arena ++ more)) done.blocks m (omega (arith, before)),
          same_start arena more starts n (length (arena ++ more)) done.blocks (m + 1) (omega (arith, before)),
          done.blocks.rise m before,
        )
    rises m (inr last) =
        subst (λ k. start_of (starts ++ (length (arena ++ more)) ∷ []) k ≤ start_of (starts ++ (length (arena ++ more)) ∷ []) (k + 1)) (sym last)
        (omega (arith, same_start arena more starts n (length (arena ++ more)) done.blocks n (omega arith), last_start, done.blocks.end, length-append arena more))

    each : (m : ℕ) → (m < n) ⊎ (m ≡ n) → IsBlock s (arena ++ more) (starts ++ (length (arena ++ more)) ∷ []) m
    each m (inl before) = block_kept arena more starts n (length (arena ++ more)) done.blocks s ready m before (omega (arith, inside)) (done.block m before)
    each m (inr last) = subst (IsBlock s (arena ++ more) (starts ++ (length (arena ++ more)) ∷ [])) (sym last) block

-- nothing is done yet
pub done_none : (s : Setting) → AreDone s [] (0 ∷ []) 0
done_none s = record {
  blocks = record { each = refl; begin = refl; rise = λ m below. absurd (omega (arith, below)); end = refl };
  few = omega arith;
  block = λ m below. absurd (omega (arith, below));
}
