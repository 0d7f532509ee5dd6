-- The least costs of the states that are reached, cut, are closed labels; so whatever is true of valid extended plans has a certificate.
use Rattle.std.proofs.Common.{◌≡◌, ℕ, ◌+◌, ◌-◌, ◌^◌, ◌≤◌, ◌<◌, Bool, true, false, List, Option, Some, None, if◌then◌else◌, refl, ◌∙◌, ap, arith, min}
use Rattle.std.specs.Prelude.{IfSome}
use Rattle.std.specs.List.{Contains}
use Rattle.std.proofs.lemmas.List.Elements.{All-contains}
use Rattle.std.proofs.Math.Path.{subst}
use Rattle.mq_base.specs.declared.ids.NodeId.{NodeId}
use Rattle.mq_base.specs.declared.ids.TableId.{TableId}
use Rattle.cost_model.specs.Costs.{cut}
use Rattle.plan_algebra.specs.declared.kind.Kind.TheVariants as kind
use Rattle.extended_plan.specs.declared.state.Entry.{Entry}
use Rattle.extended_plan.specs.declared.state.State.{State}
use Rattle.extended_plan.specs.Certificate.{AreLeastLabels, HasLabel, IsCarried, IsLabelling, IsLeastEntry, IsListed, entries_at, is_goal, least_goal}
use Rattle.extended_plan.specs.Gains.{Gain, dec_gain, enc_gain, leaf_gain, one_gain, send_gain, two_gain}
use Rattle.extended_plan.specs.Laws.{EntriesTellLeast, IsGained, LeastCostsAreEntries, LeastHasCertificate, LeastLabelsAreClosed, NoneHasCertificate}
use Rattle.extended_plan.specs.Ready.{IsReady}
use Rattle.extended_plan.specs.Setting.{Setting, kind_at, leaf_of, root}
use Rattle.extended_plan.specs.States.{cost, state}
use Rattle.extended_plan.specs.Term.{Term, Leaf, Enc, Dec, Send, Un, Bin}
use Rattle.extended_plan.specs.Validity.{IsValid, StandsAt, is_held}
use Rattle.extended_plan.proofs.BoundLaws.{goal_valid, uncut, valid_goal}
use Rattle.extended_plan.proofs.EntryLaws.{Contains-label, IsGoalFrom, least_goal-above, least_goal-found, least_goal-none}
use Rattle.extended_plan.proofs.TermLaws.{gains_terms}

-- what a listed entry tells: it has the least cost of its state
entry_is_least : (s : Setting) (labels : List (List Entry)) (n : ℕ) (e : Entry) → AreLeastLabels s labels → Contains (entries_at labels n) e
    → IsLeastEntry s n e
entry_is_least s labels n e are there = All-contains (IsLeastEntry s n) (entries_at labels n) e (are.entries n) there

-- the state of each term that stands at a node is listed, with a label of at most its cost
pub reached_listed : (s : Setting) (labels : List (List Entry)) (n : ℕ) (x : Term) → AreLeastLabels s labels → StandsAt s n x
    → IsListed labels n (state s x) (cut (cost s x))
reached_listed s labels n x are at =
    let there : HasLabel labels n (state s x) =
    are.reached n (state s x) (record { term = x; reaches = record { stands = at; arrives = refl } }) in
    let least = entry_is_least s labels n (record { state = state s x; label = there.label }) are (Contains-label _ _ _ there.listed) in
    record {
      label = there.label;
      listed = there.listed;
      enough = least.lowest x (record { stands = at; arrives = refl });
    }

-- what is said of a gain is said where there is one
each_gain : (gained : Option Gain) (P : Gain → Type 0) → ((gain : Gain) → gained ≡ Some gain → P gain) → IfSome gained P
each_gain None P say = tt
each_gain (Some gain) P say = say gain refl

-- what a term gains is carried from labels that are the costs of its operands, cut
gain_carried : (s : Setting) (labels : List (List Entry)) (n : ℕ) (x : Term) (gain : Gain) (sum operands : ℕ) → AreLeastLabels s labels
    → IsGained s n x gain → cost s x ≡ operands + gain.cost → ((work : ℕ) → cut (operands + work) ≤ cut (sum + work))
    → IsCarried labels n sum gain
gain_carried s labels n x gain sum operands are gained costs less =
    let there : IsListed labels n (state s x) (cut (cost s x)) = reached_listed s labels n x are gained.stands in
    let top : there.label ≤ cut (operands + gain.cost) = subst (λ c. there.label ≤ cut c) costs there.enough in
    subst (λ st. IsListed labels n st (cut (sum + gain.cost))) gained.arrives (record {
      label = there.label;
      listed = there.listed;
      enough = between there.label (cut (operands + gain.cost)) (cut (sum + gain.cost)) top (less gain.cost);
    })
  where
    between : (a b c : ℕ) → a ≤ b → b ≤ c → a ≤ c
    between a b c first second = omega arith

-- cutting the parts of a sum first does not make the cut sum less
cut_one : (sum operand work top : ℕ) → sum ≡ min operand top → min (operand + work) top ≤ min (sum + work) top
cut_one sum operand work top is = omega arith

cut_two : (l r c d work top : ℕ) → l ≡ min c top → r ≡ min d top → min ((c + d) + work) top ≤ min ((l + r) + work) top
cut_two l r c d work top left right = omega arith

-- the leaf of a table is listed where its store may hold it
leaf_listed : (s : Setting) (labels : List (List Entry)) (t : TableId) (n : ℕ) → AreLeastLabels s labels → leaf_of s t ≡ Some n
    → IfSome (leaf_gain s t) (λ st. IsListed labels n st 0)
leaf_listed s labels t n are gives = by_test (is_held s (Leaf t)) refl
  where
    by_test : (b : Bool) → is_held s (Leaf t) ≡ b → IfSome (if b then Some (state s (Leaf t)) else None) (λ st. IsListed labels n st 0)
    by_test true may = reached_listed s labels n (Leaf t) are (record { gives = gives; runs = refl; held = may })
    by_test false may = tt

-- a step on one listed state
step_listed : (s : Setting) (labels : List (List Entry)) (n m : ℕ) (e : Entry) (step : State → Option Gain) (over : Term → Term)
    → AreLeastLabels s labels → Contains (entries_at labels m) e
    → ((x : Term) (gain : Gain) → StandsAt s m x → step (state s x) ≡ Some gain → IsGained s n (over x) gain × (cost s (over x) ≡ cost s x + gain.cost))
    → IfSome (step e.state) (IsCarried labels n e.label)
step_listed s labels n m e step over are there leads =
    let least : IsLeastEntry s m e = entry_is_least s labels m e are there in
    let x : Term = least.term in
    each_gain (step e.state) (IsCarried labels n e.label) (λ gain gains.
    let led = leads x gain least.reaches.stands (ap step least.reaches.arrives ∙ gains) in
    gain_carried s labels n (over x) gain e.label (cost s x) are led.0 led.1 (λ work.
    cut_one e.label (cost s x) work (2 ^ 128 - 1) least.label))

-- an operation on two listed states
two_listed : (s : Setting) → IsReady s → (labels : List (List Entry)) (n c d : NodeId) (e f : Entry) → AreLeastLabels s labels
    → kind_at s n.0 ≡ kind.Two c d → Contains (entries_at labels c.0) e → Contains (entries_at labels d.0) f
    → IfSome (two_gain s n e.state f.state) (IsCarried labels n.0 (e.label + f.label))
two_listed s ready labels n c d e f are is there there_too =
    let left : IsLeastEntry s c.0 e = entry_is_least s labels c.0 e are there in
    let right : IsLeastEntry s d.0 f = entry_is_least s labels d.0 f are there_too in
    let x : Term = left.term in
    let y : Term = right.term in
    each_gain (two_gain s n e.state f.state) (IsCarried labels n.0 (e.label + f.label)) (λ gain gains.
    let gained : IsGained s n.0 (Bin n x y) gain =
    gains_terms s ready n.0 (Bin n x y) gain (
      refl,
      record {
        left_operand = c;
        right_operand = d;
        kind = is;
        left = left.reaches.stands;
        right = right.reaches.stands;
      },
    )
    (ap (λ st. two_gain s n st (state s y)) left.reaches.arrives ∙ ap (two_gain s n e.state) right.reaches.arrives ∙ gains) in
    gain_carried s labels n.0 (Bin n x y) gain (e.label + f.label) (cost s x + cost s y) are gained gained.costs (λ work.
    cut_two e.label f.label (cost s x) (cost s y) work (2 ^ 128 - 1) left.label right.label))

-- least labels are closed
pub least_closed : LeastLabelsAreClosed
least_closed s ready labels are = record {
  leaf = λ t n gives. leaf_listed s labels t n are gives;
  enc = λ n a e there.
      step_listed s labels n n e (enc_gain s n a) (Enc a) are there (λ x gain at gains.
      let gained = gains_terms s ready n (Enc a x) gain at gains in (gained, gained.costs));
  dec = λ n a e there.
      step_listed s labels n n e (dec_gain s n a) (Dec a) are there (λ x gain at gains.
      let gained = gains_terms s ready n (Dec a x) gain at gains in (gained, gained.costs));
  send = λ n to e there.
      step_listed s labels n n e (send_gain s n to) (Send to) are there (λ x gain at gains.
      let gained = gains_terms s ready n (Send to x) gain at gains in (gained, gained.costs));
  one = λ n c e is there.
      step_listed s labels n.0 c.0 e (one_gain s n) (Un n) are there (λ x gain at gains.
      let gained = gains_terms s ready n.0 (Un n x) gain (refl, record { operand = c; kind = is; stands = at }) gains in (gained, gained.costs));
  two = λ n c d e f is there there_too. two_listed s ready labels n c d e f are is there there_too;
}

-- least labels are the labels of a certificate
labelling : (s : Setting) → IsReady s → (labels : List (List Entry)) → AreLeastLabels s labels → IsLabelling s labels
labelling s ready labels are = record { each = are.each; ascending = are.ascending; closed = least_closed s ready labels are }

-- the term that an entry of the root stands for is valid where the entry is a goal's
entry_valid : (s : Setting) (e : Entry) (least : IsLeastEntry s (root s) e) → is_goal s e.state ≡ true → IsValid s least.term
entry_valid s e least goal =
    valid_goal s least.term least.reaches.stands (ap (is_goal s) least.reaches.arrives ∙ goal)

-- a least valid extended plan has a certificate
pub least_certified : LeastHasCertificate
least_certified s ready labels are x best small =
    let there : IsListed labels (root s) (state s x) (cut (cost s x)) = reached_listed s labels (root s) x are best.valid.stands in
    let up = least_goal-found s (entries_at labels (root s)) (state s x) there.label (goal_valid s x best.valid) there.listed in
    let above : IfSome (least_goal s (entries_at labels (root s))) (λ least. cost s x ≤ least) =
    least_goal-above s (cost s x) (entries_at labels (root s)) (λ k d below. from_goal (are.entries (root s) k d below)) in
    let low : cost s x ≤ up.least = subst (λ o. IfSome o (λ least. cost s x ≤ least)) up.is above in
    let top : there.label ≤ cost s x = uncut (cost s x) there.label there.enough in
    let label_up : up.least ≤ there.label = up.enough in
    let same : up.least ≡ cost s x = omega arith in
    record {
      labelling = labelling s ready labels are;
      term = x;
      spelt = refl;
      valid = best.valid;
      costs = refl;
      goal = up.is ∙ ap (λ l. Some l) same;
    }
  where
    no_cut : (whole least top label : ℕ) → label ≡ min least top → whole ≤ least → whole ≤ top → whole ≤ label
    no_cut whole least top label is less fits = omega arith

    from_goal : {e : Entry} → IsLeastEntry s (root s) e → IsGoalFrom s (cost s x) e
    from_goal {e} least goal =
        no_cut (cost s x) (cost s least.term) (2 ^ 128 - 1) e.label least.label (best.lowest least.term (entry_valid s e least goal))
        (omega arith)

-- and so has that there is none
pub none_certified : NoneHasCertificate
none_certified s ready labels are none = record {
  labelling = labelling s ready labels are;
  goal = least_goal-none s (entries_at labels (root s)) (λ k d below goal.
      none _ (entry_valid s _ (are.entries (root s) k d below) goal));
}

-- a label is the least cost of its state, cut
least_cut : (label least mine its : ℕ) → label ≡ cut mine → its ≡ least → label ≤ cut its → least ≤ mine → label ≡ cut least
least_cut label least mine its is same low high = omega arith

least_whole : (label mine : ℕ) → label ≡ cut mine → label < 2 ^ 128 - 1 → mine ≡ label
least_whole label mine is below = omega arith

under_cut : (label other : ℕ) → label ≤ cut other → label ≤ other
under_cut label other low = omega arith

pub entries_least : EntriesTellLeast
entries_least s n e is = record {
  cut_least = λ least at. least_cut e.label least (cost s is.term) (cost s at.term) is.label at.costs (is.lowest at.term at.reaches) (at.lowest is.term is.reaches);
  exact = λ below. record {
    term = is.term;
    reaches = is.reaches;
    costs = least_whole e.label (cost s is.term) is.label below;
    lowest = λ x reaches. under_cut e.label (cost s x) (is.lowest x reaches);
  };
}

-- a least cost, cut, makes an entry
cut_under : (label least mine : ℕ) → label ≡ cut least → mine ≡ least → label ≡ cut mine
cut_under label least mine is same = omega arith

cut_keeps : (label least other : ℕ) → label ≡ cut least → least ≤ other → label ≤ cut other
cut_keeps label least other is low = omega arith

pub least_entries : LeastCostsAreEntries
least_entries s n e least at is = record {
  term = at.term;
  reaches = at.reaches;
  label = cut_under e.label least (cost s at.term) is at.costs;
  lowest = λ x reaches. cut_keeps e.label least (cost s x) is (at.lowest x reaches);
}
