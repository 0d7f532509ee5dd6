-- What ways tell: they lead to the same terms in a longer arena, a step leads on from the way of its operand, and the steps of a
-- term are told from the end back.
use Rattle.std.proofs.Common.{◌≡◌, ℕ, ◌+◌, ◌-◌, ◌^◌, ◌≤◌, ◌<◌, true, List, [], ◌∷◌, ◌++◌, length, Option, Some, None, refl, sym, ◌∙◌, ap, subst, arith, min}
use Rattle.std.specs.Prelude.{IfSome, option_map, slice_get}
use Rattle.std.proofs.lemmas.List.{get_or_append_left, length-append}
use Rattle.std.proofs.lemmas.Option.{slice_get_within}
use Rattle.base_laws.specs.Sets.{has}
use Rattle.base_laws.proofs.PlaceLaws.{slice_get-append_left}
use Rattle.mq_base.specs.declared.ids.AttrId.{AttrId}
use Rattle.mq_base.specs.declared.ids.NodeId.{NodeId}
use Rattle.mq_base.specs.declared.ids.SubjectId.{SubjectId}
use Rattle.mq_base.specs.declared.ids.TableId.{TableId}
use Rattle.mq_base.specs.declared.plan.Step.{Step}
use Rattle.mq_base.specs.declared.plan.Step.TheVariants as step
use Rattle.cost_model.specs.Costs.{cut}
use Rattle.plan_algebra.specs.declared.kind.Kind.TheVariants as kind
use Rattle.extended_plan.specs.declared.state.State.{State}
use Rattle.extended_plan.specs.Gains.{Gain, across, crossable, dec_gain, enc_gain, leaf_gain, one_gain, send_gain, two_gain}
use Rattle.extended_plan.specs.Laws.{IsGained}
use Rattle.extended_plan.specs.Ready.{IsReady}
use Rattle.extended_plan.specs.Setting.{Setting, kind_at, leaf_of}
use Rattle.extended_plan.specs.States.{cost, state}
use Rattle.extended_plan.specs.Term.{Term, Leaf, Enc, Dec, Send, Un, Bin, spell}
use Rattle.extended_plan.specs.Validity.{StandsAt}
use Rattle.extended_plan.proofs.TermLaws.{gains_terms}
use Rattle.assign_table.specs.declared.way.Settled.{Settled}
use Rattle.assign_table.specs.declared.way.Way.{Way}
use Rattle.assign_table.specs.declared.way.Way.TheVariants as way
use Rattle.assign_table.specs.inside.Crossing.{IsCrossed, IsMet, crossed_label, crossing}
use Rattle.assign_table.specs.inside.Ways.{IsAttained, Leads, settled_at, to_leaf, to_enc, to_dec, to_send, to_one, to_two}

-- what stands at a place of the arena stands there when it has grown
kept_at : (arena more : List Settled) (w : ℕ) (e : Settled) → slice_get arena w ≡ Some e → slice_get (arena ++ more) w ≡ Some e
kept_at arena more w e at = slice_get-append_left arena more w (slice_get_within arena w e at) ∙ at

-- a way leads to its term when the arena has grown
pub leads_grown : (arena more : List Settled) (way : Way) (x : Term) → Leads arena way x → Leads (arena ++ more) way x
leads_grown arena more way x (to_leaf t) = to_leaf t
leads_grown arena more way x (to_enc a w e y at on) = to_enc a w e y (kept_at arena more w e at) (leads_grown arena more e.way y on)
leads_grown arena more way x (to_dec a w e y at on) = to_dec a w e y (kept_at arena more w e at) (leads_grown arena more e.way y on)
leads_grown arena more way x (to_send r w e y at on) = to_send r w e y (kept_at arena more w e at) (leads_grown arena more e.way y on)
leads_grown arena more way x (to_one n w e y at on) = to_one n w e y (kept_at arena more w e at) (leads_grown arena more e.way y on)
leads_grown arena more way x (to_two n v w e f y z at at_too on on_too) =
    to_two n v w e f y z (kept_at arena more v e at) (kept_at arena more w f at_too) (leads_grown arena more e.way y on)
    (leads_grown arena more f.way z on_too)

-- what is attained stays so when the arena has grown, also with more places
pub attained_grown : (s : Setting) (arena more : List Settled) (n base top later : ℕ) (st : State) (label : ℕ) (way : Way)
    → top ≤ later → IsAttained s arena n base top st label way → IsAttained s (arena ++ more) n base later st label way
attained_grown s arena more n base top later st label way less is = record {
  term = is.term;
  leads = leads_grown arena more way is.term is.leads;
  stands = is.stands;
  arrives = is.arrives;
  costs = is.costs;
  short = omega (arith, is.short);
}

-- and so does what is traced
trace_grown : (s : Setting) (arena more : List Settled) (n from top later a place : ℕ) (st : State) (label : ℕ) → top ≤ later → top ≤ length arena
    → IsCrossed s arena n from top a place st label → IsCrossed s (arena ++ more) n from later a place st label
trace_grown s arena more n from top later a place st label less within is =
    let high : place < top = is.inside.high in
    let same : settled_at arena place ≡ settled_at (arena ++ more) place =
    sym (get_or_append_left arena more (settled_at [] 0) place (omega arith)) in
    record {
      inside = record { low = is.inside.low; high = omega arith };
      crosses = subst (λ (f : Settled). has (crossable s n f.state.holder) a ≡ true) same is.crosses;
      state = subst (λ (f : Settled). st ≡ across a f.state) same is.state;
      costs = subst (λ (f : Settled). label ≡ crossed_label s n a f) same is.costs;
    }

pub met_grown : (s : Setting) (arena more : List Settled) (n base from place later : ℕ) (st : State) (label : ℕ) (way : Way)
    → place ≤ later → place ≤ length arena → IsMet s arena n base from place st label way
    → IsMet s (arena ++ more) n base from later st label way
met_grown s arena more n base from place later st label way less within is = record {
  attained = attained_grown s arena more n base (place + 1) (later + 1) st label way (omega (arith, less)) is.attained;
  traced = by_way (crossing way) is.traced;
}
  where
    by_way : (found : Option (AttrId × ℕ)) → IfSome found (λ c. IsCrossed s arena n from place c.0.0 c.1 st label)
        → IfSome found (λ c. IsCrossed s (arena ++ more) n from later c.0.0 c.1 st label)
    by_way None is = tt
    by_way (Some c) is = trace_grown s arena more n from place later c.0.0 c.1 st label less within is

-- sums of cut numbers, cut
cut_sum : (label whole work top : ℕ) → label ≡ min whole top → min (label + work) top ≡ min (whole + work) top
cut_sum label whole work top is = omega arith

cut_sums : (l r c d work top : ℕ) → l ≡ min c top → r ≡ min d top → min ((l + r) + work) top ≡ min ((c + d) + work) top
cut_sums l r c d work top left right = omega arith

-- a state that costs nothing
abbrev free : State → Gain
free st = record { state = st; cost = 0 }

-- the leaf of a table is attained
pub leaf_attained : (s : Setting) → IsReady s → (arena : List Settled) (n base : ℕ) (t : TableId) (st : State) → leaf_of s t ≡ Some n
    → leaf_gain s t ≡ Some st → base ≤ length arena → IsAttained s arena n base (length arena + 1) st 0 (way.Leaf t)
leaf_attained s ready arena n base t st gives gains low =
    let gained : IsGained s n (Leaf t) (record { state = st; cost = 0 }) =
    gains_terms s ready n (Leaf t) (record { state = st; cost = 0 }) gives (ap (option_map free) gains) in
    record {
      term = Leaf t;
      leads = to_leaf t;
      stands = gained.stands;
      arrives = gained.arrives;
      costs = refl;
      short = omega (arith, low);
    }

-- a step on one attained state
one_attained : (s : Setting) (arena : List Settled) (n m base w : ℕ) (e : Settled) (by : Way) (over : Term → Term) (gain : Gain)
    → slice_get arena w ≡ Some e → IsAttained s arena m base (w + 1) e.state e.label e.way
    → ((x : Term) → Leads arena e.way x → Leads arena by (over x))
    → ((x : Term) → length (spell (over x)) ≡ length (spell x) + 1)
    → ((x : Term) → StandsAt s m x → state s x ≡ e.state → IsGained s n (over x) gain × (cost s (over x) ≡ cost s x + gain.cost))
    → IsAttained s arena n base (length arena + 1) gain.state (cut (e.label + gain.cost)) by
one_attained s arena n m base w e by over gain at from leads longer gains =
    let gained = gains from.term from.stands from.arrives in
    let below : w < length arena = slice_get_within arena w e at in
    record {
      term = over from.term;
      leads = leads from.term from.leads;
      stands = gained.0.stands;
      arrives = gained.0.arrives;
      costs = cut_sum e.label (cost s from.term) gain.cost (2 ^ 128 - 1) from.costs ∙ ap cut (sym gained.1);
      short = omega (arith, longer from.term, from.short, below);
    }

-- a term's spelling with one more step
one_longer : (x : Term) (last : Step) → length (spell x ++ last ∷ []) ≡ length (spell x) + 1
one_longer x last = length-append (spell x) (last ∷ [])

pub enc_attained : (s : Setting) → IsReady s → (arena : List Settled) (n base w : ℕ) (e : Settled) (a : AttrId) (gain : Gain)
    → slice_get arena w ≡ Some e → IsAttained s arena n base (w + 1) e.state e.label e.way → enc_gain s n a e.state ≡ Some gain
    → IsAttained s arena n base (length arena + 1) gain.state (cut (e.label + gain.cost)) (way.One (step.Enc a) w)
enc_attained s ready arena n base w e a gain at from gains =
    one_attained s arena n n base w e (way.One (step.Enc a) w) (Enc a) gain at from (λ x on. to_enc a w e x at on) (λ x. one_longer x (step.Enc a))
    (λ x stands same. let gained = gains_terms s ready n (Enc a x) gain stands (ap (enc_gain s n a) same ∙ gains) in (gained, gained.costs))

pub dec_attained : (s : Setting) → IsReady s → (arena : List Settled) (n base w : ℕ) (e : Settled) (a : AttrId) (gain : Gain)
    → slice_get arena w ≡ Some e → IsAttained s arena n base (w + 1) e.state e.label e.way → dec_gain s n a e.state ≡ Some gain
    → IsAttained s arena n base (length arena + 1) gain.state (cut (e.label + gain.cost)) (way.One (step.Dec a) w)
dec_attained s ready arena n base w e a gain at from gains =
    one_attained s arena n n base w e (way.One (step.Dec a) w) (Dec a) gain at from (λ x on. to_dec a w e x at on) (λ x. one_longer x (step.Dec a))
    (λ x stands same. let gained = gains_terms s ready n (Dec a x) gain stands (ap (dec_gain s n a) same ∙ gains) in (gained, gained.costs))

pub send_attained : (s : Setting) → IsReady s → (arena : List Settled) (n base w : ℕ) (e : Settled) (to : SubjectId) (gain : Gain)
    → slice_get arena w ≡ Some e → IsAttained s arena n base (w + 1) e.state e.label e.way → send_gain s n to e.state ≡ Some gain
    → IsAttained s arena n base (length arena + 1) gain.state (cut (e.label + gain.cost)) (way.One (step.Send to) w)
send_attained s ready arena n base w e to gain at from gains =
    one_attained s arena n n base w e (way.One (step.Send to) w) (Send to) gain at from (λ x on. to_send to w e x at on) (λ x. one_longer x (step.Send to))
    (λ x stands same. let gained = gains_terms s ready n (Send to x) gain stands (ap (send_gain s n to) same ∙ gains) in (gained, gained.costs))

-- the operation of a node on one attained state
pub un_attained : (s : Setting) → IsReady s → (arena : List Settled) (n c : NodeId) (base w : ℕ) (e : Settled) (gain : Gain)
    → kind_at s n.0 ≡ kind.One c → slice_get arena w ≡ Some e → IsAttained s arena c.0 base (w + 1) e.state e.label e.way
    → one_gain s n e.state ≡ Some gain
    → IsAttained s arena n.0 base (length arena + 1) gain.state (cut (e.label + gain.cost)) (way.One (step.Un n) w)
un_attained s ready arena n c base w e gain is at from gains =
    one_attained s arena n.0 c.0 base w e (way.One (step.Un n) w) (Un n) gain at from (λ x on. to_one n w e x at on) (λ x. one_longer x (step.Un n))
    (λ x stands same.
    let gained : IsGained s n.0 (Un n x) gain =
    gains_terms s ready n.0 (Un n x) gain (refl, record { operand = c; kind = is; stands = stands }) (ap (one_gain s n) same ∙ gains) in
    (gained, gained.costs))

-- and on two, the right one's blocks beginning where the left one's block has ended
pub bin_attained : (s : Setting) → IsReady s → (arena : List Settled) (n c d : NodeId) (base middle v w : ℕ) (e f : Settled) (gain : Gain)
    → kind_at s n.0 ≡ kind.Two c d → slice_get arena v ≡ Some e → slice_get arena w ≡ Some f → v < middle
    → IsAttained s arena c.0 base (v + 1) e.state e.label e.way → IsAttained s arena d.0 middle (w + 1) f.state f.label f.way
    → two_gain s n e.state f.state ≡ Some gain
    → IsAttained s arena n.0 base (length arena + 1) gain.state (cut ((e.label + f.label) + gain.cost)) (way.Two n v w)
bin_attained s ready arena n c d base middle v w e f gain is at at_too before left right gains =
    let x : Term = left.term in
    let y : Term = right.term in
    let gained : IsGained s n.0 (Bin n x y) gain =
    gains_terms s ready n.0 (Bin n x y) gain (
      refl,
      record {
        left_operand = c;
        right_operand = d;
        kind = is;
        left = left.stands;
        right = right.stands;
      },
    )
    (ap (λ st. two_gain s n st (state s y)) left.arrives ∙ ap (two_gain s n e.state) right.arrives ∙ gains) in
    let below : w < length arena = slice_get_within arena w f at_too in
    let long : length (spell (Bin n x y)) ≡ length (spell x) + length (spell y) + 1 =
    length-append (spell x ++ spell y) (step.Bin n ∷ []) ∙ ap (λ k. k + 1) (length-append (spell x) (spell y)) in
    record {
      term = Bin n x y;
      leads = to_two n v w e f x y at at_too left.leads right.leads;
      stands = gained.stands;
      arrives = gained.arrives;
      costs = cut_sums e.label f.label (cost s x) (cost s y) gain.cost (2 ^ 128 - 1) left.costs right.costs ∙ ap cut (sym gained.costs);
      short = omega (arith, long, left.short, right.short, before, below);
    }
