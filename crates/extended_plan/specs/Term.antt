-- Extended plans: the query's operations with leaves, encryptions, decryptions and sends, of any length. docs/MODEL.md,
-- "Extended plans", tells them in prose.
use Rattle.std.specs.Prelude.{ℕ, ◌==◌, ◌&&◌, Bool, false, List, [], ◌∷◌, ◌++◌, Option, Some, None, if◌then◌else◌}
use Rattle.mq_base.specs.declared.ids.AttrId.{AttrId}
use Rattle.mq_base.specs.declared.ids.NodeId.{NodeId}
use Rattle.mq_base.specs.declared.ids.SubjectId.{SubjectId}
use Rattle.mq_base.specs.declared.ids.TableId.{TableId}
use Rattle.mq_base.specs.declared.plan.Step.{Step}
use Rattle.mq_base.specs.declared.plan.Step.TheVariants as step
use Rattle.plan_algebra.specs.declared.kind.Kind.{Kind}
use Rattle.plan_algebra.specs.declared.kind.Kind.TheVariants as kind
use Rattle.extended_plan.specs.Setting.{Setting, kind_at, leaf_of, store_of}

-- a leaf at its table's store; the encryption or decryption of an attribute; a send to a subject; a node's operation on one
-- operand, or on two
pub data Term : Type 0 where
  Leaf : (t : TableId) → Term
  Enc : (a : AttrId) → (x : Term) → Term
  Dec : (a : AttrId) → (x : Term) → Term
  Send : (to : SubjectId) → (x : Term) → Term
  Un : (n : NodeId) → (x : Term) → Term
  Bin : (n : NodeId) → (x : Term) → (y : Term) → Term

-- the steps of a term, each after those that make its operands
abbrev pub spell : Term → List Step
spell (Leaf t) = step.Base t ∷ []
spell (Enc a x) = spell x ++ step.Enc a ∷ []
spell (Dec a x) = spell x ++ step.Dec a ∷ []
spell (Send to x) = spell x ++ step.Send to ∷ []
spell (Un n x) = spell x ++ step.Un n ∷ []
spell (Bin n x y) = spell x ++ spell y ++ step.Bin n ∷ []

-- the subject that holds the table of a term: the store of a leaf, the receiver of a send, and else who holds the first operand
abbrev pub holder : Setting → Term → SubjectId
holder s (Leaf t) = store_of s t
holder s (Enc a x) = holder s x
holder s (Dec a x) = holder s x
holder s (Send to x) = to
holder s (Un n x) = holder s x
holder s (Bin n x y) = holder s x

-- whether a node of this kind stands on one operand, which is at that node; or on two, which are at those nodes
abbrev pub stands_on : Kind → Option ℕ → Bool
stands_on (kind.One x) (Some m) = x.0 == m
stands_on _ _ = false

abbrev pub stands_on_both : Kind → Option ℕ → Option ℕ → Bool
stands_on_both (kind.Two x y) (Some m) (Some n) = (x.0 == m) && (y.0 == n)
stands_on_both _ _ _ = false

-- the node whose subtree a term gives when its encryptions, decryptions and sends are dropped, where it gives one
abbrev pub node_of : Setting → Term → Option ℕ
node_of s (Leaf t) = leaf_of s t
node_of s (Enc a x) = node_of s x
node_of s (Dec a x) = node_of s x
node_of s (Send to x) = node_of s x
node_of s (Un n x) = if stands_on (kind_at s n.0) (node_of s x) then Some n.0 else None
node_of s (Bin n x y) = if stands_on_both (kind_at s n.0) (node_of s x) (node_of s y) then Some n.0 else None
