-- The profile of an extended plan, and which extended plans are runnable, authorised and valid. docs/MODEL.md, "Extended plans",
-- tells it in prose.
use Rattle.std.specs.Prelude.{◌≡◌, ℕ, ◌==◌, ◌&&◌, Bool, true, not, length, nat_lt, Some}
use Rattle.std.specs.Option.{option_map_or}
use Rattle.base_laws.specs.Sets.{has}
use Rattle.mq_base.specs.declared.ids.SubjectId.{SubjectId}
use Rattle.mq_base.specs.declared.ids.TableId.{TableId}
use Rattle.plan_algebra.specs.Facts.{leaf_set}
use Rattle.policy_base.specs.Accepted.{plain_of, sealed_of}
use Rattle.relation_profile.specs.Profile.{Profile}
use Rattle.relation_profile.specs.Runnable.{runs_one, runs_two}
use Rattle.relation_profile.specs.Steps.{after_dec, after_enc, after_one, after_two, leaf_profile}
use Rattle.view_authority.specs.Authority.{may}
use Rattle.extended_plan.specs.Setting.{Setting, leaf_of, op_at, root, schemes}
use Rattle.extended_plan.specs.Term.{Term, Leaf, Enc, Dec, Send, Un, Bin, holder, node_of}

-- the used attributes of a table
abbrev pub used_at : Setting → TableId → ℕ
used_at s t = option_map_or (λ n. leaf_set (op_at s n)) (leaf_of s t) 0

-- the profile of a term: after its last step, by those of its operands
abbrev pub profile : Setting → Term → Profile
profile s (Leaf t) = leaf_profile s.policy.rest.0 (used_at s t)
profile s (Enc a x) = after_enc a.0 (profile s x)
profile s (Dec a x) = after_dec a.0 (profile s x)
profile s (Send to x) = profile s x
profile s (Un n x) = after_one (op_at s n.0) (profile s x)
profile s (Bin n x y) = after_two (op_at s n.0) (profile s x) (profile s y)

-- whether a subject is one of the policy other than the holder, and so may be sent a table
abbrev pub may_get : Setting → SubjectId → SubjectId → Bool
may_get s from to = nat_lt to.0 (length s.policy.subjects) && not (to.0 == from.0)

-- whether each step of a term is runnable; a leaf always is
abbrev pub runnable : Setting → Term → Bool
runnable s (Leaf t) = true
runnable s (Enc a x) = runnable s x && has (profile s x).visible_plain a.0
runnable s (Dec a x) = runnable s x && has (profile s x).visible_encrypted a.0
runnable s (Send to x) = runnable s x && may_get s (holder s x) to
runnable s (Un n x) = runnable s x && runs_one (schemes s) (op_at s n.0) (profile s x)
runnable s (Bin n x y) =
    runnable s x && (runnable s y && ((holder s x).0 == (holder s y).0 && runs_two (schemes s) (op_at s n.0) (profile s x) (profile s y)))

-- whether a subject may hold a table of a profile
abbrev pub may_hold : Setting → SubjectId → Profile → Bool
may_hold s holder p = may (plain_of s.policy holder.0) (sealed_of s.policy holder.0) p

-- whether the holder of a term may hold its table
abbrev pub is_held : Setting → Term → Bool
is_held s x = may_hold s (holder s x) (profile s x)

-- whether the holder of each subterm may hold its table, the term's own among them
abbrev pub authorised : Setting → Term → Bool
authorised s (Leaf t) = is_held s (Leaf t)
authorised s (Enc a x) = authorised s x && is_held s (Enc a x)
authorised s (Dec a x) = authorised s x && is_held s (Dec a x)
authorised s (Send to x) = authorised s x && is_held s (Send to x)
authorised s (Un n x) = authorised s x && is_held s (Un n x)
authorised s (Bin n x y) = authorised s x && (authorised s y && is_held s (Bin n x y))

-- a term stands at a node: it gives the subtree there, each of its steps is runnable, and each of its tables is held by a subject
-- that may hold it
pub record StandsAt (s : Setting) (n : ℕ) (x : Term) : Type 0 where
  pub gives : node_of s x ≡ Some n
  pub runs : runnable s x ≡ true
  pub held : authorised s x ≡ true

-- a valid extended plan stands at the root, and the user holds its table, in which nothing is encrypted
pub record IsValid (s : Setting) (x : Term) : Type 0 where
  pub stands : StandsAt s (root s) x
  pub by_user : holder s x ≡ s.policy.user
  pub opened : (profile s x).visible_encrypted ≡ 0
