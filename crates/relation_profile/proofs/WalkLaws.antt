-- What a walk over the grouped attributes keeps: the ones that are left decide whether all compare.
use Rattle.std.proofs.Common.{◌≡◌, ℕ, ◌^◌, ◌<◌, List, true, false, refl, sym}
use Rattle.base_laws.specs.Sets.{has, without}
use Rattle.base_laws.proofs.MemberLaws.{all_members-empty, all_members-fail, all_members-more, all_members-without}
use Rattle.mq_base.specs.declared.query.CmpOp.{CmpOp}
use Rattle.mq_base.specs.declared.table.Scheme.{Scheme}
use Rattle.relation_profile.specs.declared.seen.Seen.{Seen}
use Rattle.relation_profile.specs.Runnable.{all_comparable, is_comparable}
use Rattle.relation_profile.specs.inside.Seen.{showing}

-- the plain ones compare
pub walk-start : (schemes : List Scheme) (cmp : CmpOp) (set : ℕ) (seen : Seen) (left : ℕ) → left ≡ without set seen.plain.0
    → all_comparable schemes cmp set (showing seen) ≡ all_comparable schemes cmp left (showing seen)
walk-start schemes cmp set seen left is =
    rw is (sym (all_members-without (λ a. is_comparable schemes cmp a (showing seen)) set seen.plain.0 (λ i there. rw there refl)))

-- one that compares is taken out
pub walk-more : (schemes : List Scheme) (cmp : CmpOp) (seen : Seen) (left a next : ℕ) → is_comparable schemes cmp a (showing seen) ≡ true
    → next ≡ without left (2 ^ a) → all_comparable schemes cmp left (showing seen) ≡ all_comparable schemes cmp next (showing seen)
walk-more schemes cmp seen left a next compares is =
    rw is (sym (all_members-more (λ a. is_comparable schemes cmp a (showing seen)) left a compares))

-- one that does not compare decides
pub walk-fail : (schemes : List Scheme) (cmp : CmpOp) (seen : Seen) (left a : ℕ) → has left a ≡ true → a < 64
    → is_comparable schemes cmp a (showing seen) ≡ false → all_comparable schemes cmp left (showing seen) ≡ false
walk-fail schemes cmp seen left a inside small fails =
    all_members-fail (λ a. is_comparable schemes cmp a (showing seen)) left a inside small fails

-- where none is left, all compare
pub walk-end : (schemes : List Scheme) (cmp : CmpOp) (seen : Seen) (left : ℕ) → left ≡ 0
    → all_comparable schemes cmp left (showing seen) ≡ true
walk-end schemes cmp seen left none = rw none (all_members-empty (λ a. is_comparable schemes cmp a (showing seen)))
