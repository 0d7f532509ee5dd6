-- Labels of states, and when they bound the cost of every extended plan. docs/MODEL.md, "Certificate", tells it in prose.
use Rattle.std.specs.Prelude.{◌≡◌, ℕ, ◌+◌, ◌≤◌, ◌==◌, ◌&&◌, Bool, List, [], ◌∷◌, length, All, Option, Some, None, IfSome, min, slice_index_or, if◌then◌else◌}
use Rattle.std.specs.List.{Contains}
use Rattle.std.specs.Option.{option_map_or}
use Rattle.std.specs.Ordering.{nat_cmp, ordering_then}
use Rattle.std.specs.declared.cmp.Ordering.{Ordering}
use Rattle.std.specs.declared.cmp.Ordering.TheVariants.{Less}
use Rattle.mq_base.specs.declared.ids.AttrId.{AttrId}
use Rattle.mq_base.specs.declared.ids.NodeId.{NodeId}
use Rattle.mq_base.specs.declared.ids.SubjectId.{SubjectId}
use Rattle.mq_base.specs.declared.ids.TableId.{TableId}
use Rattle.mq_base.specs.declared.plan.Step.{Step}
use Rattle.cost_model.specs.Costs.{cut}
use Rattle.plan_algebra.specs.declared.kind.Kind.TheVariants as kind
use Rattle.extended_plan.specs.declared.state.Entry.{Entry}
use Rattle.extended_plan.specs.declared.state.State.{State}
use Rattle.extended_plan.specs.Gains.{Gain, dec_gain, enc_gain, leaf_gain, one_gain, send_gain, two_gain}
use Rattle.extended_plan.specs.Setting.{Setting, kind_at, leaf_of, root}
use Rattle.extended_plan.specs.States.{IsReached, Reaches, cost, state_eq}
use Rattle.extended_plan.specs.Term.{Term, spell}
use Rattle.extended_plan.specs.Validity.{IsValid}

-- the entries of a node, for each node a list of them
abbrev pub entries_at : List (List Entry) → ℕ → List Entry
entries_at labels n = slice_index_or labels n []

-- the label of a state among entries, where it is listed
abbrev pub label_of : List Entry → State → Option ℕ
label_of [] st = None
label_of (e ∷ rest) st = if state_eq e.state st then Some e.label else label_of rest st

-- a state is listed at a node, with a label of at most so much
pub record IsListed (labels : List (List Entry)) (n : ℕ) (st : State) (most : ℕ) : Type 0 where
  pub label : ℕ
  pub listed : label_of (entries_at labels n) st ≡ Some label
  pub enough : label ≤ most

-- a state is listed at a node
pub record HasLabel (labels : List (List Entry)) (n : ℕ) (st : State) : Type 0 where
  pub label : ℕ
  pub listed : label_of (entries_at labels n) st ≡ Some label

-- what is gained from labelled states is listed, with a label of at most their sum and the step's cost, cut
abbrev pub IsCarried : List (List Entry) → ℕ → ℕ → Gain → Type 0
IsCarried labels n sum gain = IsListed labels n gain.state (cut (sum + gain.cost))

-- labels are closed: each leaf's state is listed with the label 0, and what one step gains from listed states is listed
pub record IsClosed (s : Setting) (labels : List (List Entry)) : Type 0 where
  pub leaf : (t : TableId) (n : ℕ) → leaf_of s t ≡ Some n → IfSome (leaf_gain s t) (λ st. IsListed labels n st 0)
  pub enc : (n : ℕ) (a : AttrId) (e : Entry) → Contains (entries_at labels n) e
      → IfSome (enc_gain s n a e.state) (IsCarried labels n e.label)
  pub dec : (n : ℕ) (a : AttrId) (e : Entry) → Contains (entries_at labels n) e
      → IfSome (dec_gain s n a e.state) (IsCarried labels n e.label)
  pub send : (n : ℕ) (to : SubjectId) (e : Entry) → Contains (entries_at labels n) e
      → IfSome (send_gain s n to e.state) (IsCarried labels n e.label)
  pub one : (n x : NodeId) (e : Entry) → kind_at s n.0 ≡ kind.One x → Contains (entries_at labels x.0) e
      → IfSome (one_gain s n e.state) (IsCarried labels n.0 e.label)
  pub two : (n x y : NodeId) (e f : Entry) → kind_at s n.0 ≡ kind.Two x y
      → Contains (entries_at labels x.0) e → Contains (entries_at labels y.0) f
      → IfSome (two_gain s n e.state f.state) (IsCarried labels n.0 (e.label + f.label))

-- the order of states: by holder, and then by what is encrypted, implicit plaintext and implicit encrypted, as numbers
abbrev pub state_cmp : State → State → Ordering
state_cmp s t =
    ordering_then (nat_cmp s.holder.0 t.holder.0)
    (ordering_then (nat_cmp s.view.enc.0 t.view.enc.0) (ordering_then (nat_cmp s.view.ip.0 t.view.ip.0) (nat_cmp s.view.ie.0 t.view.ie.0)))

-- entries in strictly ascending order of their states
abbrev pub IsAscending : List Entry → Type 0
IsAscending [] = Unit {0}
IsAscending (e ∷ rest) = All (λ (f : Entry). state_cmp e.state f.state ≡ Less) rest × IsAscending rest

-- the labels of a certificate: a list for each node, ascending and closed
pub record IsLabelling (s : Setting) (labels : List (List Entry)) : Type 0 where
  pub each : length labels ≡ length s.basis.nodes
  pub ascending : (n : ℕ) → IsAscending (entries_at labels n)
  pub closed : IsClosed s labels

-- whether a state is the end of a valid extended plan, where it is one of the root
abbrev pub is_goal : Setting → State → Bool
is_goal s st = (st.holder.0 == s.policy.user.0) && (st.view.enc.0 == 0)

-- the smaller of a number and another one, where there is another one
abbrev pub least_with : ℕ → Option ℕ → ℕ
least_with n other = option_map_or (min n) other n

-- the least label of a goal among entries, where one is listed
abbrev pub least_goal : Setting → List Entry → Option ℕ
least_goal s [] = None
least_goal s (e ∷ rest) = if is_goal s e.state then Some (least_with e.label (least_goal s rest)) else least_goal s rest

-- a certificate that a plan is least: its steps spell a valid extended plan of this cost, which is the least label of a goal
pub record ShowsLeast (s : Setting) (labels : List (List Entry)) (steps : List Step) (least : ℕ) : Type 0 where
  pub labelling : IsLabelling s labels
  pub term : Term
  pub spelt : spell term ≡ steps
  pub valid : IsValid s term
  pub costs : cost s term ≡ least
  pub goal : least_goal s (entries_at labels (root s)) ≡ Some least

-- a certificate that there is no valid extended plan: no goal is listed
pub record ShowsNone (s : Setting) (labels : List (List Entry)) : Type 0 where
  pub labelling : IsLabelling s labels
  pub goal : least_goal s (entries_at labels (root s)) ≡ None

-- an entry of a node has the least cost of its state there, cut: that of some term, cut, and no term's cost, cut, is less
pub record IsLeastEntry (s : Setting) (n : ℕ) (e : Entry) : Type 0 where
  pub term : Term
  pub reaches : Reaches s n e.state term
  pub label : e.label ≡ cut (cost s term)
  pub lowest : (x : Term) → Reaches s n e.state x → e.label ≤ cut (cost s x)

-- the labels that a search answers: at each node exactly the states that are reached there, each with its least cost, cut
pub record AreLeastLabels (s : Setting) (labels : List (List Entry)) : Type 0 where
  pub each : length labels ≡ length s.basis.nodes
  pub ascending : (n : ℕ) → IsAscending (entries_at labels n)
  pub entries : (n : ℕ) → All (IsLeastEntry s n) (entries_at labels n)
  pub reached : (n : ℕ) (st : State) → IsReached s n st → HasLabel labels n st
