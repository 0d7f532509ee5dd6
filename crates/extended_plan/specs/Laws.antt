-- The laws of extended plans, over the setting of a job: what the state of one tells, how each step leads from states to a state,
-- what closed labels bound, and that its spelling determines it. docs/MODEL.md, "Extended plans", "States", "Step lists" and
-- "Certificate", tells them in prose.
use Rattle.std.specs.Prelude.{◌≡◌, ℕ, ◌+◌, ◌-◌, ◌≤◌, ◌<◌, ◌^◌, true, List, length, Option, Some, None, bit_or, if◌then◌else◌, option_map}
use Rattle.base_laws.specs.Sets.{has}
use Rattle.mq_base.specs.declared.ids.AttrId.{AttrId}
use Rattle.mq_base.specs.declared.ids.NodeId.{NodeId}
use Rattle.mq_base.specs.declared.plan.Step.{Step}
use Rattle.cost_model.specs.Costs.{cut}
use Rattle.plan_algebra.specs.declared.kind.Kind.TheVariants as kind
use Rattle.relation_profile.specs.View.{IsView}
use Rattle.extended_plan.specs.declared.state.Entry.{Entry}
use Rattle.extended_plan.specs.declared.state.State.{State}
use Rattle.extended_plan.specs.Certificate.{AreLeastLabels, IsClosed, IsLeastEntry, IsListed, ShowsLeast, ShowsNone}
use Rattle.extended_plan.specs.Gains.{Gain, cross_gain, dec_gain, enc_gain, leaf_gain, one_gain, send_gain, shown, two_gain}
use Rattle.extended_plan.specs.Job.{IsHeldAt}
use Rattle.extended_plan.specs.Ready.{IsReady}
use Rattle.extended_plan.specs.Setting.{Setting, kind_at, known_at, leaf_of}
use Rattle.extended_plan.specs.States.{IsLeast, cost, state}
use Rattle.extended_plan.specs.Term.{Term, Leaf, Enc, Dec, Send, Un, Bin, node_of, spell}
use Rattle.extended_plan.specs.Validity.{IsValid, StandsAt, profile, runnable}

-- at a node of the plan a subject of the policy holds a term, whose view is one of the node and stands there for the term's profile;
-- the visible sets of that make together the node's, and its equivalent sets are the node's
pub record IsSeenAt (s : Setting) (n : ℕ) (x : Term) : Type 0 where
  pub node : n < length s.basis.nodes
  pub known : (state s x).holder.0 < length s.policy.subjects
  pub shows : shown s n (state s x) ≡ profile s x
  pub view : IsView (known_at s n) (state s x).view
  pub visible : bit_or (profile s x).visible_plain (profile s x).visible_encrypted ≡ (known_at s n).visible.0
  pub equivalent : (profile s x).equivalent ≡ (known_at s n).eq

-- so is each runnable term that gives a node seen there
abbrev pub TermsAreSeen : Type 0
TermsAreSeen = (s : Setting) → IsReady s → (n : ℕ) (x : Term) → node_of s x ≡ Some n → runnable s x ≡ true → IsSeenAt s n x

-- the encryption or the decryption of an attribute gains what is gained across it: the one where it is plain, the other where it is encrypted
pub record AreAcross (s : Setting) (n : ℕ) (a : AttrId) (st : State) : Type 0 where
  pub enc : enc_gain s n a st ≡ (if has st.view.enc.0 a.0 then None else cross_gain s n a st)
  pub dec : dec_gain s n a st ≡ (if has st.view.enc.0 a.0 then cross_gain s n a st else None)

-- so it is in each state that its holder may hold
abbrev pub CryptsAreAcross : Type 0
CryptsAreAcross = (s : Setting) (n : ℕ) (a : AttrId) (st : State) → IsHeldAt s n st → AreAcross s n a st

-- a term stands at the one operand of a node
pub record IsOperandOf (s : Setting) (n : ℕ) (x : Term) : Type 0 where
  pub operand : NodeId
  pub kind : kind_at s n ≡ kind.One operand
  pub stands : StandsAt s operand.0 x

-- two terms stand at the two operands of a node
pub record AreOperandsOf (s : Setting) (n : ℕ) (x y : Term) : Type 0 where
  pub left_operand : NodeId
  pub right_operand : NodeId
  pub kind : kind_at s n ≡ kind.Two left_operand right_operand
  pub left : StandsAt s left_operand.0 x
  pub right : StandsAt s right_operand.0 y

-- the operands of a term stand where its last step takes them from, to give node n
abbrev pub HasOperandsFor : Setting → ℕ → Term → Type 0
HasOperandsFor s n (Leaf t) = leaf_of s t ≡ Some n
HasOperandsFor s n (Enc a x) = StandsAt s n x
HasOperandsFor s n (Dec a x) = StandsAt s n x
HasOperandsFor s n (Send to x) = StandsAt s n x
HasOperandsFor s n (Un m x) = (m.0 ≡ n) × IsOperandOf s n x
HasOperandsFor s n (Bin m x y) = (m.0 ≡ n) × AreOperandsOf s n x y

-- what the last step of a term gains at node n, from the states of its operands
abbrev pub last_gain : Setting → ℕ → Term → Option Gain
last_gain s n (Leaf t) = option_map (λ (st : State). record { state = st; cost = 0 }) (leaf_gain s t)
last_gain s n (Enc a x) = enc_gain s n a (state s x)
last_gain s n (Dec a x) = dec_gain s n a (state s x)
last_gain s n (Send to x) = send_gain s n to (state s x)
last_gain s n (Un m x) = one_gain s m (state s x)
last_gain s n (Bin m x y) = two_gain s m (state s x) (state s y)

-- what the operands of a term cost
abbrev pub operands_cost : Setting → Term → ℕ
operands_cost s (Leaf t) = 0
operands_cost s (Enc a x) = cost s x
operands_cost s (Dec a x) = cost s x
operands_cost s (Send to x) = cost s x
operands_cost s (Un m x) = cost s x
operands_cost s (Bin m x y) = cost s x + cost s y

-- a term stands at a node with this state, and its last step has this cost
pub record IsGained (s : Setting) (n : ℕ) (x : Term) (gain : Gain) : Type 0 where
  pub stands : StandsAt s n x
  pub arrives : state s x ≡ gain.state
  pub costs : cost s x ≡ operands_cost s x + gain.cost

-- what the last step of a term gains from operands that stand where it takes them from is the term's
abbrev pub GainsAreTerms : Type 0
GainsAreTerms =
    (s : Setting) → IsReady s → (n : ℕ) (x : Term) (gain : Gain) → HasOperandsFor s n x → last_gain s n x ≡ Some gain → IsGained s n x gain

-- a term stands at a node by its last step, which gains its state
pub record StandsByStep (s : Setting) (n : ℕ) (x : Term) : Type 0 where
  pub operands : HasOperandsFor s n x
  pub gain : Gain
  pub gains : last_gain s n x ≡ Some gain
  pub gained : IsGained s n x gain

-- so does each term that stands at a node
abbrev pub TermsAreGained : Type 0
TermsAreGained = (s : Setting) → IsReady s → (n : ℕ) (x : Term) → StandsAt s n x → StandsByStep s n x

-- closed labels list the state of each term that stands at a node, with a label of at most its cost, cut
abbrev pub ClosedLabelsBound : Type 0
ClosedLabelsBound =
    (s : Setting) → IsReady s → (labels : List (List Entry)) → IsClosed s labels → (n : ℕ) (x : Term) → StandsAt s n x
    → IsListed labels n (state s x) (cut (cost s x))

-- no valid extended plan costs less than a certificate shows as the least
abbrev pub LeastIsShown : Type 0
LeastIsShown =
    (s : Setting) → IsReady s → (labels : List (List Entry)) (steps : List Step) (least : ℕ) → ShowsLeast s labels steps least
    → (x : Term) → IsValid s x → least ≤ cost s x

-- there is no valid extended plan where a certificate shows that there is none
abbrev pub NoneIsShown : Type 0
NoneIsShown = (s : Setting) → IsReady s → (labels : List (List Entry)) → ShowsNone s labels → (x : Term) → IsValid s x → ⊥

-- the least costs of the states that are reached, cut, are closed labels
abbrev pub LeastLabelsAreClosed : Type 0
LeastLabelsAreClosed = (s : Setting) → IsReady s → (labels : List (List Entry)) → AreLeastLabels s labels → IsClosed s labels

-- a label tells the least cost of its state: it is that cost, cut, and the cost itself below 2^128 - 1
pub record TellsLeast (s : Setting) (n : ℕ) (e : Entry) : Type 0 where
  pub cut_least : (least : ℕ) → IsLeast s n e.state least → e.label ≡ cut least
  pub exact : e.label < 2 ^ 128 - 1 → IsLeast s n e.state e.label

-- so does each entry that is least by its label; and a state with its least cost, cut, is such an entry
abbrev pub EntriesTellLeast : Type 0
EntriesTellLeast = (s : Setting) (n : ℕ) (e : Entry) → IsLeastEntry s n e → TellsLeast s n e

abbrev pub LeastCostsAreEntries : Type 0
LeastCostsAreEntries =
    (s : Setting) (n : ℕ) (e : Entry) (least : ℕ) → IsLeast s n e.state least → e.label ≡ cut least → IsLeastEntry s n e

-- a valid extended plan that costs no more than any other
pub record IsLeastValid (s : Setting) (x : Term) : Type 0 where
  pub valid : IsValid s x
  pub lowest : (y : Term) → IsValid s y → cost s x ≤ cost s y

-- with them, a least valid extended plan has a certificate, where its cost is within 128 bits
abbrev pub LeastHasCertificate : Type 0
LeastHasCertificate =
    (s : Setting) → IsReady s → (labels : List (List Entry)) → AreLeastLabels s labels → (x : Term) → IsLeastValid s x
    → cost s x < 2 ^ 128 → ShowsLeast s labels (spell x) (cost s x)

-- and so has that there is none
abbrev pub NoneHasCertificate : Type 0
NoneHasCertificate =
    (s : Setting) → IsReady s → (labels : List (List Entry)) → AreLeastLabels s labels → ((x : Term) → IsValid s x → ⊥)
    → ShowsNone s labels

-- two terms with one spelling are one, and so have one node, holder, state and cost
abbrev pub SpellingDetermines : Type 0
SpellingDetermines = (x y : Term) → spell x ≡ spell y → x ≡ y
