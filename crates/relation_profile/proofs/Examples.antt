-- Profiles after each step of small extended plans, computed; the values are worked out by hand from the table of docs/MODEL.md,
-- "Relation profile".
use lib.Count.{count_trailing_zeros}
use Rattle.std.proofs.Common.{◌≡◌, ℕ, pos, true, false, Some, None, List, [], ◌∷◌, codes, map, refl}
use Rattle.base_laws.specs.Sets.{members}
use Rattle.mq_base.specs.declared.attr_set.AttrSet.{AttrSet}
use Rattle.mq_base.specs.declared.ids.AttrId.{AttrId}
use Rattle.mq_base.specs.declared.plan.PlanOp.TheVariants as op
use Rattle.mq_base.specs.declared.query.Agg.TheVariants as agg
use Rattle.mq_base.specs.declared.query.CmpOp.TheVariants.{Eq, Ne, Lt, Gt, Ge}
use Rattle.mq_base.specs.declared.table.Scheme.{Scheme}
use Rattle.mq_base.specs.declared.table.Scheme.TheVariants.{Rnd, Det, Ope}
use Rattle.mq_base.specs.declared.value.Value.TheVariants.{Int, Text}
use Rattle.relation_profile.specs.Profile.{Profile}
use Rattle.relation_profile.specs.Runnable.{run_dec, run_enc, run_one, run_two, runs_one}
use Rattle.relation_profile.specs.Steps.{after_dec, after_enc, leaf_profile}

abbrev attribute : ℕ → AttrId
attribute a = record { 0 = a }

abbrev set : ℕ → AttrSet
set members = record { 0 = members }

abbrev profile : ℕ → ℕ → ℕ → ℕ → List ℕ → Profile
profile vp ve ip ie eq = record {
  visible_plain = vp;
  visible_encrypted = ve;
  implicit_plain = ip;
  implicit_encrypted = ie;
  equivalent = map set eq;
}

-- SELECT b, d FROM r, s WHERE a = c AND a >= 2, where r has a and b (0 and 1), s has c and d (2 and 3), nothing is sealed at
-- rest, and a and c are order-preserving. The join is done where all four are sealed.
abbrev schemes_of_join : List Scheme
schemes_of_join = Ope ∷ Rnd ∷ Ope ∷ Rnd ∷ []

leaf_r : leaf_profile 0 3 ≡ profile 3 0 0 0 []
leaf_r = refl

enc_a : run_enc 0 (profile 3 0 0 0 []) ≡ Some (profile 2 1 0 0 [])
enc_a = refl

selected_a : run_one schemes_of_join (op.SelConst (attribute 0) Ge (Int (pos 2))) (profile 2 1 0 0 []) ≡ Some (profile 2 1 0 1 [])
selected_a = refl

enc_b : run_enc 1 (profile 2 1 0 1 []) ≡ Some (profile 0 3 0 1 [])
enc_b = refl

leaf_s : leaf_profile 0 12 ≡ profile 12 0 0 0 []
leaf_s = refl

enc_d : run_enc 3 (profile 12 0 0 0 []) ≡ Some (profile 4 8 0 0 [])
enc_d = refl

enc_c : run_enc 2 (profile 4 8 0 0 []) ≡ Some (profile 0 12 0 0 [])
enc_c = refl

joined_sealed : run_two schemes_of_join (op.Join (attribute 0) Eq (attribute 2)) (profile 0 3 0 1 []) (profile 0 12 0 0 [])
    ≡ Some (profile 0 15 0 1 (5 ∷ []))
joined_sealed = refl

projected : run_one schemes_of_join (op.Project (set 10)) (profile 0 15 0 1 (5 ∷ [])) ≡ Some (profile 0 10 0 1 (5 ∷ []))
projected = refl

dec_d : run_dec 3 (profile 0 10 0 1 (5 ∷ [])) ≡ Some (profile 8 2 0 1 (5 ∷ []))
dec_d = refl

dec_b : run_dec 1 (profile 8 2 0 1 (5 ∷ [])) ≡ Some (profile 10 0 0 1 (5 ∷ []))
dec_b = refl

-- SELECT T, SUM(P) FROM Hosp JOIN Ins ON S = C WHERE D = 'stroke' GROUP BY T HAVING SUM(P) > 100, where Hosp has S, B, D, T
-- (0 to 3) and Ins has C, P (4, 5). The join is done on sealed S and C.
abbrev schemes_of_hospital : List Scheme
schemes_of_hospital = Det ∷ Rnd ∷ Det ∷ Det ∷ Det ∷ Ope ∷ []

leaf_hosp : leaf_profile 0 13 ≡ profile 13 0 0 0 []
leaf_hosp = refl

selected_d : run_one schemes_of_hospital (op.SelConst (attribute 2) Eq (Text (codes "stroke"))) (profile 13 0 0 0 [])
    ≡ Some (profile 13 0 4 0 [])
selected_d = refl

enc_S : run_enc 0 (profile 13 0 4 0 []) ≡ Some (profile 12 1 4 0 [])
enc_S = refl

leaf_ins : leaf_profile 0 48 ≡ profile 48 0 0 0 []
leaf_ins = refl

enc_C : run_enc 4 (profile 48 0 0 0 []) ≡ Some (profile 32 16 0 0 [])
enc_C = refl

joined_premiums : run_two schemes_of_hospital (op.Join (attribute 0) Eq (attribute 4)) (profile 12 1 4 0 []) (profile 32 16 0 0 [])
    ≡ Some (profile 44 17 4 0 (17 ∷ []))
joined_premiums = refl

-- T joins the implicit plaintext; S, C and D are no longer visible, and D stays implicit
grouped_by_T : run_one schemes_of_hospital (op.Group (set 8) ((attribute 5, agg.Sum) ∷ []) false) (profile 44 17 4 0 (17 ∷ []))
    ≡ Some (profile 40 0 12 0 (17 ∷ []))
unfolding members
grouped_by_T = refl

having_P : run_one schemes_of_hospital (op.SelConst (attribute 5) Gt (Int (pos 100))) (profile 40 0 12 0 (17 ∷ []))
    ≡ Some (profile 40 0 44 0 (17 ∷ []))
having_P = refl

-- of a leaf on 0, 1 and 2, where 1 is sealed at rest, as 3 is, which is not used
leaf_at_rest : leaf_profile 10 7 ≡ profile 5 2 0 0 []
leaf_at_rest = refl

-- an attribute that is not visible, or sealed already, is not encrypted
enc_gone : run_enc 2 (profile 1 2 0 0 []) ≡ None
enc_gone = refl

enc_sealed : after_enc 1 (profile 1 2 4 8 []) ≡ profile 1 2 4 8 []
enc_sealed = refl

dec_plain : run_dec 0 (profile 1 2 0 0 []) ≡ None
dec_plain = refl

dec_clear : after_dec 0 (profile 1 2 4 8 []) ≡ profile 1 2 4 8 []
dec_clear = refl

-- a plain attribute does not compare with a sealed one, whatever its scheme
plain_with_sealed : runs_one (Ope ∷ Ope ∷ []) (op.SelAttr (attribute 0) Eq (attribute 1)) (profile 1 2 0 0 []) ≡ false
plain_with_sealed = refl

both_plain : run_one [] (op.SelAttr (attribute 0) Lt (attribute 1)) (profile 3 0 0 0 []) ≡ Some (profile 3 0 0 0 (3 ∷ []))
both_plain = refl

-- deterministic cells have no order, and randomised ones do not compare
order_on_deterministic : runs_one (Det ∷ Ope ∷ []) (op.SelAttr (attribute 0) Lt (attribute 1)) (profile 0 3 0 0 []) ≡ false
order_on_deterministic = refl

equality_on_randomised : runs_one (Rnd ∷ []) (op.SelConst (attribute 0) Eq (Int (pos 1))) (profile 0 1 0 0 []) ≡ false
equality_on_randomised = refl

unlike_on_deterministic : run_one (Det ∷ []) (op.SelConst (attribute 0) Ne (Int (pos 1))) (profile 0 1 0 0 [])
    ≡ Some (profile 0 1 0 1 [])
unlike_on_deterministic = refl

-- the family stays in the order of the least members, and sets that come to share a member become one
families_merge : run_one [] (op.SelAttr (attribute 3) Eq (attribute 4)) (profile 63 0 0 0 (9 ∷ 6 ∷ 48 ∷ []))
    ≡ Some (profile 63 0 0 0 (57 ∷ 6 ∷ []))
unfolding count_trailing_zeros
families_merge = refl

-- groups: a sum is of a plain attribute, a least value of one whose values have an order, and sealed keys are equal or not
sealed_sum : runs_one (Ope ∷ Ope ∷ []) (op.Group (set 1) ((attribute 1, agg.Sum) ∷ []) false) (profile 1 2 0 0 []) ≡ false
unfolding members
sealed_sum = refl

sealed_least : runs_one (Det ∷ Ope ∷ []) (op.Group (set 1) ((attribute 1, agg.Min) ∷ []) false) (profile 0 3 0 0 []) ≡ true
unfolding members
sealed_least = refl

unordered_least : runs_one (Det ∷ Det ∷ []) (op.Group (set 1) ((attribute 1, agg.Max) ∷ []) false) (profile 0 3 0 0 []) ≡ false
unfolding members
unordered_least = refl

randomised_key : runs_one (Rnd ∷ []) (op.Group (set 1) [] true) (profile 0 1 0 0 []) ≡ false
unfolding members
randomised_key = refl

-- 0 is a plain key, 1 a sealed one, 2 under a function, and 3 goes; what was implicit stays
grouped_keys : run_one (Rnd ∷ Det ∷ Ope ∷ []) (op.Group (set 3) ((attribute 2, agg.Max) ∷ []) false) (profile 9 6 16 32 (9 ∷ []))
    ≡ Some (profile 1 6 17 34 (9 ∷ []))
unfolding members
grouped_keys = refl
