-- What is gained across an attribute: an encryption or a decryption of a table that its holder may hold is one of an attribute that the
-- holder sees plain, and leads to the state across it.
use Rattle.std.proofs.Common.{◌≡◌, ℕ, ◌^◌, ◌==◌, Bool, true, false, ◌&&◌, ◌||◌, not, Option, Some, None, if◌then◌else◌, bit_or, bit_xor, refl, sym, ◌∙◌, ap, subst, true≢false, arith}
use Rattle.std.specs.Prelude.{option_map}
use Rattle.std.specs.Int.Bits.{xor_assoc, xor_self, xor_zero_r}
use Rattle.std.proofs.lemmas.Bool.{eqb-true}
use Rattle.std.proofs.lemmas.Nat.{xor_comm}
use Rattle.base_laws.specs.Sets.{has, with_member, without, IsWithin}
use Rattle.base_laws.proofs.BoolLaws.{both}
use Rattle.base_laws.proofs.SetLaws.{has-bit_and, has-bit_or, has-cross, has-single, has-without, has-xor, put-in, taken-out, test_from_within, within_from_test}
use Rattle.mq_base.specs.declared.ids.AttrId.{AttrId}
use Rattle.cost_model.specs.Costs.{sealing}
use Rattle.policy_base.specs.Accepted.{plain_of, sealed_of}
use Rattle.relation_profile.specs.Profile.{Profile}
use Rattle.relation_profile.specs.Runnable.{run_dec, run_enc}
use Rattle.relation_profile.specs.View.{view_of}
use Rattle.relation_profile.proofs.ViewLaws.{dec_answer_stands, enc_answer_stands}
use Rattle.view_authority.specs.Authority.{may, sees_alike, sees_plain, sees_sealed}
use Rattle.extended_plan.specs.declared.state.State.{State}
use Rattle.extended_plan.specs.Gains.{Gain, across, cross_gain, crossable, dec_gain, enc_gain, shown}
use Rattle.extended_plan.specs.Job.{IsHeldAt}
use Rattle.extended_plan.specs.Laws.{CryptsAreAcross}
use Rattle.extended_plan.specs.Setting.{Setting, known_at}
use Rattle.extended_plan.specs.Validity.{may_hold}
use Rattle.extended_plan.specs.Ran.{at_holder}
use Rattle.extended_plan.proofs.GainLaws.{held_parts, worked}

-- ---- the state across an attribute

-- a state with other encrypted attributes
abbrev sealed_as : State → ℕ → State
sealed_as st set = record { holder = st.holder; view = record { enc = record { 0 = set }; ip = st.view.ip; ie = st.view.ie } }

-- across an attribute twice is back, and across two it does not matter which comes first
pub across-back : (a : ℕ) (st : State) → across a (across a st) ≡ st
across-back a st =
    ap (sealed_as st)
    (xor_assoc st.view.enc.0 (2 ^ a) (2 ^ a) ∙ ap (bit_xor st.view.enc.0) (xor_self (2 ^ a)) ∙ xor_zero_r st.view.enc.0)

pub across-turned : (a b : ℕ) (st : State) → across a (across b st) ≡ across b (across a st)
across-turned a b st =
    ap (sealed_as st)
    (xor_assoc st.view.enc.0 (2 ^ b) (2 ^ a) ∙ ap (bit_xor st.view.enc.0) (xor_comm (2 ^ b) (2 ^ a))
    ∙ sym (xor_assoc st.view.enc.0 (2 ^ a) (2 ^ b)))

-- the parts of what its holder may hold
pub record IsSeen (plain sealed : ℕ) (p : Profile) : Type 0 where
  pub opened : sees_plain plain p ≡ true
  pub closed : sees_sealed plain sealed p ≡ true
  pub alike : sees_alike plain sealed p ≡ true

seen_parts : (plain sealed : ℕ) (p : Profile) → may plain sealed p ≡ true → IsSeen plain sealed p
seen_parts plain sealed p may =
    let first = both (sees_plain plain p && sees_sealed plain sealed p) (sees_alike plain sealed p) may in
    let second = both (sees_plain plain p) (sees_sealed plain sealed p) first.0 in
    record { opened = second.0; closed = second.1; alike = first.1 }

module _ (s : Setting) (n a : ℕ) (st : State) (held : IsHeldAt s n st) where
  abbrev plain : ℕ
  plain = plain_of s.policy st.holder.0

  abbrev sealed : ℕ
  sealed = sealed_of s.policy st.holder.0

  abbrev visible : ℕ
  visible = (known_at s n).visible.0

  abbrev enc : ℕ
  enc = st.view.enc.0

  was : IsSeen plain sealed (shown s n st)
  was = seen_parts plain sealed (shown s n st) held.held

  plainly : IsWithin (bit_or (without visible enc) st.view.ip.0) plain
  plainly = within_from_test _ _ was.opened

  closely : IsWithin (bit_or enc st.view.ie.0) (bit_or plain sealed)
  closely = within_from_test _ _ was.closed

  or_left : (x y : Bool) → x ≡ true → (x || y) ≡ true
  or_left true y is = refl
  or_left false y is = absurd (true≢false (sym is))

  or_right : (x y : Bool) → y ≡ true → (x || y) ≡ true
  or_right true y is = refl
  or_right false y is = is

  -- what is visible and not encrypted its holder sees plain
  pub plain_there : has visible a ≡ true → has enc a ≡ false → has plain a ≡ true
  plain_there there out =
      plainly.member a
      (has-bit_or (without visible enc) st.view.ip.0 a
      ∙ or_left (has (without visible enc) a) (has st.view.ip.0 a) (has-without visible enc a ∙ inside (has visible a) (has enc a) there out))
    where
      inside : (x y : Bool) → x ≡ true → y ≡ false → (x && not y) ≡ true
      inside true false is none = refl
      inside true true is none = absurd (true≢false none)
      inside false y is none = absurd (true≢false (sym is))

  -- where the holder sees it plain, it may hold the table across it
  opened_across : has plain a ≡ true → sees_plain plain (shown s n (across a st)) ≡ true
  opened_across seen = test_from_within _ _ (record { member = λ i there. by_test i (a == i) refl (sym (has-bit_or (without visible (bit_xor enc (2 ^ a))) st.view.ip.0 i) ∙ there) })
    where
      by_test : (i : ℕ) (b : Bool) → (a == i) ≡ b → (has (without visible (bit_xor enc (2 ^ a))) i || has st.view.ip.0 i) ≡ true → has plain i ≡ true
      by_test i true is there = subst (λ k. has plain k ≡ true) (eqb-true a i is) seen
      by_test i false is there =
          let same : has (bit_xor enc (2 ^ a)) i ≡ has enc i =
          has-cross enc a i ∙ ap (λ b. if b then not (has enc i) else has enc i) is in
          let less : has (without visible (bit_xor enc (2 ^ a))) i ≡ has (without visible enc) i =
          has-without visible (bit_xor enc (2 ^ a)) i ∙ ap (λ b. has visible i && not b) same ∙ sym (has-without visible enc i) in
          plainly.member i (has-bit_or (without visible enc) st.view.ip.0 i ∙ ap (λ b. b || has st.view.ip.0 i) (sym less) ∙ there)

  closed_across : has plain a ≡ true → sees_sealed plain sealed (shown s n (across a st)) ≡ true
  closed_across seen = test_from_within _ _ (record { member = λ i there. by_test i (a == i) refl (sym (has-bit_or (bit_xor enc (2 ^ a)) st.view.ie.0 i) ∙ there) })
    where
      by_test : (i : ℕ) (b : Bool) → (a == i) ≡ b → (has (bit_xor enc (2 ^ a)) i || has st.view.ie.0 i) ≡ true → has (bit_or plain sealed) i ≡ true
      by_test i true is there =
          has-bit_or plain sealed i ∙ or_left (has plain i) (has sealed i) (subst (λ k. has plain k ≡ true) (eqb-true a i is) seen)
      by_test i false is there =
          let same : has (bit_xor enc (2 ^ a)) i ≡ has enc i =
          has-cross enc a i ∙ ap (λ b. if b then not (has enc i) else has enc i) is in
          closely.member i (has-bit_or enc st.view.ie.0 i ∙ ap (λ b. b || has st.view.ie.0 i) (sym same) ∙ there)

  -- and where it does not, it may not
  hidden_across : has visible a ≡ true → has plain a ≡ false → sees_plain plain (shown s n (across a st)) ≡ false
  hidden_across there unseen = by_test (sees_plain plain (shown s n (across a st))) refl
    where
      opened : (x y : Bool) → x ≡ true → y ≡ true → (x && not (not y)) ≡ true
      opened true true is was = refl
      opened true false is was = absurd (true≢false (sym was))
      opened false y is was = absurd (true≢false (sym is))

      encrypted : (b : Bool) → has enc a ≡ b → has enc a ≡ true
      encrypted true is = is
      encrypted false is = absurd (true≢false (sym (plain_there there is) ∙ unseen))

      shows : has (bit_or (without visible (bit_xor enc (2 ^ a))) st.view.ip.0) a ≡ true
      shows =
          has-bit_or (without visible (bit_xor enc (2 ^ a))) st.view.ip.0 a
          ∙ or_left (has (without visible (bit_xor enc (2 ^ a))) a) (has st.view.ip.0 a)
          (has-without visible (bit_xor enc (2 ^ a)) a
          ∙ ap (λ b. has visible a && not b) (has-xor enc (2 ^ a) a ∙ ap (λ b. if b then not (has enc a) else has enc a) (has-single a a ∙ same a))
          ∙ opened (has visible a) (has enc a) there (encrypted (has enc a) refl))
        where
          same : (k : ℕ) → (k == k) ≡ true
          same k = grind arith

      by_test : (b : Bool) → sees_plain plain (shown s n (across a st)) ≡ b → sees_plain plain (shown s n (across a st)) ≡ false
      by_test true is = absurd (true≢false (sym ((within_from_test _ plain is).member a shows) ∙ unseen))
      by_test false is = is

  pub may_across : has visible a ≡ true → may_hold s st.holder (shown s n (across a st)) ≡ has plain a
  may_across there = by_test (has plain a) refl
    where
      all : (x y z : Bool) → x ≡ true → y ≡ true → z ≡ true → ((x && y) && z) ≡ true
      all true true true p q r = refl
      all true true false p q r = absurd (true≢false (sym r))
      all true false z p q r = absurd (true≢false (sym q))
      all false y z p q r = absurd (true≢false (sym p))

      by_test : (b : Bool) → has plain a ≡ b → may_hold s st.holder (shown s n (across a st)) ≡ b
      by_test true seen = all _ _ _ (opened_across seen) (closed_across seen) was.alike
      by_test false unseen =
          ap (λ b. (b && sees_sealed plain sealed (shown s n (across a st))) && sees_alike plain sealed (shown s n (across a st)))
          (hidden_across there unseen)

  -- a state across an attribute that its holder sees plain is one that it may hold
  pub held_across : has (crossable s n st.holder) a ≡ true → IsHeldAt s n (across a st)
  held_across crosses =
      let parts = both (has visible a) (has plain a) (sym (has-bit_and visible plain a) ∙ crosses) in
      record {
        at = record { known = held.at.known; view = record { visible = record { member = λ i there. by_test i (a == i) refl parts.0 there } } };
        held = may_across parts.0 ∙ parts.1;
      }
    where
      by_test : (i : ℕ) (b : Bool) → (a == i) ≡ b → has visible a ≡ true → has (bit_xor enc (2 ^ a)) i ≡ true → has visible i ≡ true
      by_test i true is there inside = subst (λ k. has visible k ≡ true) (eqb-true a i is) there
      by_test i false is there inside =
          held.at.view.visible.member i (sym (has-cross enc a i ∙ ap (λ b. if b then not (has enc i) else has enc i) is) ∙ inside)

-- ---- what is gained across it

module _ (s : Setting) (n : ℕ) (a : AttrId) (st : State) (held : IsHeldAt s n st) where
  abbrev cost : ℕ
  cost = sealing s.basis a.0 st.holder.0 n

  abbrev reached : Option Gain
  reached = Some (record { state = across a.0 st; cost = cost })

  -- what is gained by work to the state across
  crossed : (new : State) → new ≡ across a.0 st → has (known_at s n).visible.0 a.0 ≡ true → worked s n cost (Some new) ≡ cross_gain s n a st
  crossed new same there =
      ap (λ (u : State). worked s n cost (Some u)) same
      ∙ ap (λ b. if b then reached else None)
      (may_across s n a.0 st held there
      ∙ sym (has-bit_and (known_at s n).visible.0 (plain_of s.policy st.holder.0) a.0 ∙ ap (λ b. b && has (plain_of s.policy st.holder.0) a.0) there))

  -- an attribute that is not visible is not crossed
  pub uncrossed : has (known_at s n).visible.0 a.0 ≡ false → cross_gain s n a st ≡ None
  uncrossed hidden =
      ap (λ b. if b then reached else None)
      (has-bit_and (known_at s n).visible.0 (plain_of s.policy st.holder.0) a.0 ∙ ap (λ b. b && has (plain_of s.policy st.holder.0) a.0) hidden)

  run_enc_is : (b : Bool) → has (without (known_at s n).visible.0 st.view.enc.0) a.0 ≡ b
      → option_map view_of (run_enc a.0 (shown s n st)) ≡ (if b then Some (sealed_as st (with_member st.view.enc.0 a.0)).view else None)
  run_enc_is true is = rw is refl
  run_enc_is false is = rw is refl

  run_dec_is : (b : Bool) → has st.view.enc.0 a.0 ≡ b
      → option_map view_of (run_dec a.0 (shown s n st)) ≡ (if b then Some (sealed_as st (without st.view.enc.0 (2 ^ a.0))).view else None)
  run_dec_is true is = rw is refl
  run_dec_is false is = rw is refl

  enc_worked : enc_gain s n a st ≡ worked s n cost (at_holder st.holder (option_map view_of (run_enc a.0 (shown s n st))))
  enc_worked =
      held_parts s n st.holder (run_enc a.0 (shown s n st)) cost
      (enc_answer_stands a.0 (known_at s n) st.view (option_map view_of (run_enc a.0 (shown s n st))) refl)

  dec_worked : dec_gain s n a st ≡ worked s n cost (at_holder st.holder (option_map view_of (run_dec a.0 (shown s n st))))
  dec_worked =
      held_parts s n st.holder (run_dec a.0 (shown s n st)) cost
      (dec_answer_stands a.0 (known_at s n) st.view (option_map view_of (run_dec a.0 (shown s n st))) held.at.view refl)

  enc_is : (e v : Bool) → has st.view.enc.0 a.0 ≡ e → has (known_at s n).visible.0 a.0 ≡ v
      → enc_gain s n a st ≡ (if e then None else cross_gain s n a st)
  enc_is true v sealed seen =
      enc_worked
      ∙ ap (λ view. worked s n cost (at_holder st.holder view))
      (run_enc_is false (has-without (known_at s n).visible.0 st.view.enc.0 a.0 ∙ ap (λ b. has (known_at s n).visible.0 a.0 && not b) sealed ∙ and_none (has (known_at s n).visible.0 a.0)))
    where
      and_none : (b : Bool) → (b && false) ≡ false
      and_none true = refl
      and_none false = refl
  enc_is false true bare seen =
      enc_worked
      ∙ ap (λ view. worked s n cost (at_holder st.holder view))
      (run_enc_is true (has-without (known_at s n).visible.0 st.view.enc.0 a.0 ∙ ap (λ b. has (known_at s n).visible.0 a.0 && not b) bare ∙ ap (λ b. b && true) seen))
      ∙ crossed (sealed_as st (with_member st.view.enc.0 a.0)) (ap (sealed_as st) (put-in st.view.enc.0 a.0 bare)) seen
  enc_is false false bare seen =
      enc_worked
      ∙ ap (λ view. worked s n cost (at_holder st.holder view))
      (run_enc_is false (has-without (known_at s n).visible.0 st.view.enc.0 a.0 ∙ ap (λ b. b && not (has st.view.enc.0 a.0)) seen))
      ∙ sym (uncrossed seen)

  dec_is : (e : Bool) → has st.view.enc.0 a.0 ≡ e → dec_gain s n a st ≡ (if e then cross_gain s n a st else None)
  dec_is true sealed =
      dec_worked
      ∙ ap (λ view. worked s n cost (at_holder st.holder view)) (run_dec_is true sealed)
      ∙ crossed (sealed_as st (without st.view.enc.0 (2 ^ a.0))) (ap (sealed_as st) (taken-out st.view.enc.0 a.0 sealed))
      (held.at.view.visible.member a.0 sealed)
  dec_is false bare =
      dec_worked ∙ ap (λ view. worked s n cost (at_holder st.holder view)) (run_dec_is false bare)

pub crypts_across : CryptsAreAcross
crypts_across s n a st held = record {
  enc = enc_is s n a st held (has st.view.enc.0 a.0) (has (known_at s n).visible.0 a.0) refl refl;
  dec = dec_is s n a st held (has st.view.enc.0 a.0) refl;
}
