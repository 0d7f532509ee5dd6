-- Decoding the encoded run of a term gives the rows of its node.
use Rattle.std.proofs.Common.{◌≡◌, ℕ, ◌+◌, ◌-◌, ◌^◌, ◌<◌, ◌≤◌, ◌==◌, true, false, not, List, [], ◌∷◌, ◌++◌, length, map, Some, refl, sym, ◌∙◌, ap, subst, arith}
use Rattle.std.proofs.lemmas.List.{length-append}
use Rattle.base_laws.proofs.BoolLaws.{both, together}
use Rattle.base_laws.proofs.SetLaws.{has-bit_or, has-without}
use Rattle.base_laws.specs.Sets.{has, without}
use Rattle.extended_plan.proofs.PlaceLaws.{node_below, one_operand, two_operands}
use Rattle.extended_plan.proofs.ViewLaws.{seen}
use Rattle.extended_plan.specs.Setting.{Setting, kind_at, known_at, op_at}
use Rattle.extended_plan.specs.Term.{Term, Leaf, Enc, Dec, Send, Un, Bin, holder, node_of, spell}
use Rattle.extended_plan.specs.Validity.{profile, runnable, used_at}
use Rattle.extended_plan.specs.Ready.{IsReady}
use Rattle.mq_base.specs.declared.ids.AttrId.{AttrId}
use Rattle.mq_base.specs.declared.ids.NodeId.{NodeId}
use Rattle.mq_base.specs.declared.ids.TableId.{TableId}
use Rattle.mq_base.specs.declared.plan.Step.{Step}
use Rattle.mq_base.specs.declared.plan.Step.TheVariants as step
use Rattle.plan_algebra.specs.declared.kind.Kind.TheVariants as kind
use Rattle.plan_algebra.specs.Tree.{Tree, One, Two, sem}
use Rattle.provider_engine.proofs.CellLaws.{Frame, IsSplit, Tells}
use Rattle.provider_engine.proofs.LeafLaws.{leaf_tells, rest_sealed, rows_of, shown}
use Rattle.provider_engine.proofs.NodeLaws.{IsLeafTree, leaf_tree, one_tree, two_tree}
use Rattle.provider_engine.proofs.OperationLaws.{one_tells, two_tells}
use Rattle.provider_engine.proofs.StepLaws.{IsOpenedFrom, IsSealedFrom, decoding, opening_tells, sealing_tells}
use Rattle.provider_engine.specs.Decoding.{IsRun, IsRunTo, RunsDecode}
use Rattle.provider_engine.specs.Wide.{NoneIsWide, tree_of_node}
use Rattle.column_table.specs.Tables.{most_rows}
use Rattle.provider_engine.proofs.TypedLaws.{IsTyped, has_group, narrow_left, narrow_one, narrow_right, narrow_root, tree_typed}
use Rattle.provider_engine.specs.Opening.{seals_of}
use Rattle.provider_engine.specs.Run.{enc_run, plain_row, sealed_rows}
use Rattle.relation_profile.specs.Profile.{Profile}
use Rattle.relation_profile.specs.Steps.{after_dec, after_enc, leaf_profile}
use Rattle.row_algebra.proofs.LikenessLaws.{beside_length}
use Rattle.row_algebra.specs.Contents.{Contents}
use Rattle.row_algebra.specs.Likeness.{AreLike, IsLike}
use Rattle.row_algebra.specs.Rows.{cut}
use Rattle.row_algebra.specs.Values.{value_tests}
use Rattle.provider_engine.proofs.OrLaws.{or_first, or_second}

-- ---- profiles

-- no column of a runnable term is plain and sealed
split_of : (s : Setting) → IsReady s → (n : ℕ) (x : Term) → node_of s x ≡ Some n → runnable s x ≡ true → IsSplit (profile s x)
split_of s ready n x gives runs =
    subst IsSplit (seen s ready n x gives runs).shows (λ a plain sealed. apart (known_at s n).visible.0 (profile s x).visible_encrypted a plain sealed)
  where
    apart : (v e a : ℕ) → has (without v e) a ≡ true → has e a ≡ true → ⊥
    apart v e a plain sealed =
        let other : not (has e a) ≡ true = (both (has v a) (not (has e a)) (sym (has-without v e a) ∙ plain)).1 in
        let h : false ≡ true = sym (ap not sealed) ∙ other in
        cc

enc_sealed : (a : ℕ) (p : Profile) → has p.visible_plain a ≡ true → IsSealedFrom p (2 ^ a) (after_enc a p)
enc_sealed a p plain = rw plain (record {
  outside = λ b out. record {
    plain = λ is. has-without p.visible_plain (2 ^ a) b ∙ together _ _ is (ap not out);
    sealed = λ is. has-bit_or p.visible_encrypted (2 ^ a) b ∙ or_first _ _ is;
  };
  plain = λ b inside is. has-bit_or p.visible_encrypted (2 ^ a) b ∙ or_second _ _ inside;
  sealed = λ b inside is. has-bit_or p.visible_encrypted (2 ^ a) b ∙ or_second _ _ inside;
})

dec_opened : (a : ℕ) (p : Profile) → has p.visible_encrypted a ≡ true → IsOpenedFrom p (2 ^ a) (after_dec a p)
dec_opened a p sealed = rw sealed (record {
  outside = λ b out. record {
    plain = λ is. has-bit_or p.visible_plain (2 ^ a) b ∙ or_first _ _ is;
    sealed = λ is. has-without p.visible_encrypted (2 ^ a) b ∙ together _ _ is (ap not out);
  };
  plain = λ b inside is. has-bit_or p.visible_plain (2 ^ a) b ∙ or_second _ _ inside;
  sealed = λ b inside is. has-bit_or p.visible_plain (2 ^ a) b ∙ or_second _ _ inside;
})

-- ---- the run

abbrev pub frame_of : Setting → List (List ℕ) → Frame
frame_of s keys = record { schema = s.policy.schema; clusters = s.basis.clusters; keys = keys }

-- the run of a term from a place on tells the values of the rows of a tree
abbrev pub RunTells : Setting → List (List ℕ) → Contents → ℕ → Term → Tree → Type 0
RunTells s keys contents start y t =
    AreLike (Tells (frame_of s keys) (has_group t) (profile s y)) (enc_run s (seals_of s.basis.clusters keys) contents start y)
    (sem value_tests contents t)

leaf_run : (s : Setting) (keys : List (List ℕ)) (contents : Contents) → IsRun s keys contents → (n start : ℕ) (t : TableId)
    → IsRunTo s contents n start (Leaf t) → RunTells s keys contents start (Leaf t) (tree_of_node s.basis.nodes n)
leaf_run s keys contents run n start t to =
    subst (RunTells s keys contents start (Leaf t)) (sym leaf.is)
    (subst (λ (used : ℕ). AreLike (Tells (frame_of s keys) false (leaf_profile s.policy.rest.0 used))
    (sealed_rows (seals_of s.basis.clusters keys) s.policy.rest.0 start (map (λ r. plain_row (cut used r)) (contents t.0)))
    (map (cut leaf.used.0) (contents t.0))) (sym used_is) sealed)
  where
    leaf : IsLeafTree (tree_of_node s.basis.nodes n) t (op_at s n)
    leaf = leaf_tree s run.ready t n to.gives

    used_is : used_at s t ≡ leaf.used.0
    used_is = rw to.gives leaf.of_op

    plain : AreLike (Tells (frame_of s keys) false (shown leaf.used.0)) (map (λ r. plain_row (cut leaf.used.0 r)) (contents t.0))
        (map (cut leaf.used.0) (contents t.0))
    plain = leaf_tells (frame_of s keys) t.0 leaf.used.0 (contents t.0)
        (rows_of s.policy.schema t.0 (contents t.0) (run.form.own t.0) (run.form.cells t.0) (run.bytes t.0))

    narrow : length (map (cut leaf.used.0) (contents t.0)) ≤ 2 ^ 48 - 1
    narrow = subst (λ u. length (sem value_tests contents u) ≤ most_rows) leaf.is (narrow_root contents (tree_of_node s.basis.nodes n) to.narrow)

    sealed : AreLike (Tells (frame_of s keys) false (leaf_profile s.policy.rest.0 leaf.used.0))
        (sealed_rows (seals_of s.basis.clusters keys) s.policy.rest.0 start (map (λ r. plain_row (cut leaf.used.0 r)) (contents t.0)))
        (map (cut leaf.used.0) (contents t.0))
    sealed = sealing_tells (frame_of s keys) false (shown leaf.used.0) (leaf_profile s.policy.rest.0 leaf.used.0) s.policy.rest.0 start
        (rest_sealed s.policy.rest.0 leaf.used.0) (omega (arith, to.few)) _ _
        (omega (arith, narrow, beside_length (IsLike (Tells (frame_of s keys) false (shown leaf.used.0))) _ _ plain)) plain

-- what is known of a run to a node is known of one to its operand, from the operand's place on
one_to : (s : Setting) (contents : Contents) (n start : ℕ) (m : NodeId) (x : Term) (o : _) (k : ℕ) → node_of s x ≡ Some k
    → tree_of_node s.basis.nodes m.0 ≡ One o (tree_of_node s.basis.nodes k) → m.0 ≡ n → IsRunTo s contents n start (Un m x)
    → IsRunTo s contents k start x
one_to s contents n start m x o k gives is same to = record {
  gives = gives;
  runs = (both _ _ to.runs).0;
  few = omega (arith, to.few, length-append (spell x) (step.Un m ∷ []));
  narrow = narrow_one contents o (tree_of_node s.basis.nodes k)
      (subst (NoneIsWide contents) is (subst (λ i. NoneIsWide contents (tree_of_node s.basis.nodes i)) (sym same) to.narrow));
}

-- a step that keeps the node: its operand's run, where this has a step more
step_to : (s : Setting) (contents : Contents) (n start : ℕ) (last : Step) (x y : Term) → node_of s x ≡ Some n → runnable s x ≡ true
    → spell y ≡ spell x ++ last ∷ [] → IsRunTo s contents n start y → IsRunTo s contents n start x
step_to s contents n start last x y gives runs spelt to = record {
  gives = gives;
  runs = runs;
  few = omega (arith, to.few, ap length spelt, length-append (spell x) (last ∷ []));
  narrow = to.narrow;
}

-- the place of a last step is within 32 bits
place_fits : (start : ℕ) (last : Step) (x y : Term) → spell y ≡ spell x ++ last ∷ [] → start + length (spell y) ≤ 2 ^ 32
    → start + length (spell x) < 2 ^ 32
place_fits start last x y spelt few = omega (arith, few, ap length spelt, length-append (spell x) (last ∷ []))

-- the table of a term has as many rows as its node, which is not wide
rows_fit : (s : Setting) (keys : List (List ℕ)) (contents : Contents) (n start : ℕ) (x : Term) → NoneIsWide contents (tree_of_node s.basis.nodes n)
    → RunTells s keys contents start x (tree_of_node s.basis.nodes n)
    → length (enc_run s (seals_of s.basis.clusters keys) contents start x) ≤ 2 ^ 48 - 1
rows_fit s keys contents n start x narrow tells =
    omega (
      arith,
      narrow_root contents (tree_of_node s.basis.nodes n) narrow,
      beside_length (IsLike (Tells (frame_of s keys) (has_group (tree_of_node s.basis.nodes n)) (profile s x))) _ _ tells,
    )

enc_tells : (s : Setting) (keys : List (List ℕ)) (contents : Contents) (n start : ℕ) (a : AttrId) (x : Term) → IsRunTo s contents n start (Enc a x)
    → RunTells s keys contents start x (tree_of_node s.basis.nodes n) → RunTells s keys contents start (Enc a x) (tree_of_node s.basis.nodes n)
enc_tells s keys contents n start a x to tells =
    sealing_tells (frame_of s keys) (has_group (tree_of_node s.basis.nodes n)) (profile s x) (after_enc a.0 (profile s x)) (2 ^ a.0)
    (start + length (spell x)) (enc_sealed a.0 (profile s x) (both _ _ to.runs).1) (place_fits start (step.Enc a) x (Enc a x) refl to.few)
    _ _ (rows_fit s keys contents n start x to.narrow tells) tells

-- a unary operation on a run that tells its operand's rows tells its node's rows
pub un_tells : (s : Setting) (keys : List (List ℕ)) (contents : Contents) → IsRun s keys contents → (start : ℕ) (m k : NodeId) (x : Term)
    → kind_at s m.0 ≡ kind.One k → node_of s x ≡ Some k.0 → runnable s (Un m x) ≡ true → NoneIsWide contents (tree_of_node s.basis.nodes k.0)
    → RunTells s keys contents start x (tree_of_node s.basis.nodes k.0) → RunTells s keys contents start (Un m x) (tree_of_node s.basis.nodes m.0)
un_tells s keys contents run start m k x is gives runs narrow tells =
    subst (RunTells s keys contents start (Un m x)) (sym tree_is)
    (one_tells (frame_of s keys) run.few_attributes (op_at s m.0) (has_group (tree_of_node s.basis.nodes k.0)) (profile s x)
    (split_of s run.ready k.0 x gives (both _ _ runs).0) (both _ _ runs).1 typed.1
    (run.keyed m.0 (node_below s m.0 (kind.One k) is (λ e. cc))) typed.2 _ _
    (rows_fit s keys contents k.0 start x narrow tells) tells)
  where
    tree_is : tree_of_node s.basis.nodes m.0 ≡ One (op_at s m.0) (tree_of_node s.basis.nodes k.0)
    tree_is = one_tree s run.ready m.0 k is

    typed : IsTyped s.policy.schema (One (op_at s m.0) (tree_of_node s.basis.nodes k.0))
    typed = subst (IsTyped s.policy.schema) tree_is
        (tree_typed s run.ready run.typed m.0 (node_below s m.0 (kind.One k) is (λ e. cc)))

-- a binary operation on two runs that tell their operands' rows tells its node's rows
pub bin_tells : (s : Setting) (keys : List (List ℕ)) (contents : Contents) → IsRun s keys contents → (start : ℕ) (m j k : NodeId) (x y : Term)
    → kind_at s m.0 ≡ kind.Two j k → node_of s (Bin m x y) ≡ Some m.0 → runnable s (Bin m x y) ≡ true
    → RunTells s keys contents start x (tree_of_node s.basis.nodes j.0)
    → RunTells s keys contents (start + length (spell x)) y (tree_of_node s.basis.nodes k.0)
    → RunTells s keys contents start (Bin m x y) (tree_of_node s.basis.nodes m.0)
bin_tells s keys contents run start m j k x y is gives runs left right =
    subst (RunTells s keys contents start (Bin m x y)) (sym tree_is)
    (two_tells (frame_of s keys) (op_at s m.0) (has_group (tree_of_node s.basis.nodes j.0)) (has_group (tree_of_node s.basis.nodes k.0))
    (profile s x) (profile s y) (split_of s run.ready m.0 (Bin m x y) gives runs)
    (both ((holder s x).0 == (holder s y).0) _ (both (runnable s y) _ (both (runnable s x) _ runs).1).1).1 typed.2
    (run.keyed m.0 (node_below s m.0 (kind.Two j k) is (λ e. cc))) _ _ _ _ left right)
  where
    tree_is : tree_of_node s.basis.nodes m.0 ≡ Two (op_at s m.0) (tree_of_node s.basis.nodes j.0) (tree_of_node s.basis.nodes k.0)
    tree_is = two_tree s run.ready m.0 j k is

    typed : IsTyped s.policy.schema (Two (op_at s m.0) (tree_of_node s.basis.nodes j.0) (tree_of_node s.basis.nodes k.0))
    typed = subst (IsTyped s.policy.schema) tree_is
        (tree_typed s run.ready run.typed m.0 (node_below s m.0 (kind.Two j k) is (λ e. cc)))

-- the runs of the two operands of a node
left_to : (s : Setting) (contents : Contents) (start : ℕ) (m : NodeId) (x y : Term) (o : _) (j k : ℕ) → node_of s x ≡ Some j
    → tree_of_node s.basis.nodes m.0 ≡ Two o (tree_of_node s.basis.nodes j) (tree_of_node s.basis.nodes k)
    → IsRunTo s contents m.0 start (Bin m x y) → IsRunTo s contents j start x
left_to s contents start m x y o j k gives is to = record {
  gives = gives;
  runs = (both _ _ to.runs).0;
  few = omega (arith, to.few, length-append (spell x) (spell y), length-append (spell x ++ spell y) (step.Bin m ∷ []));
  narrow = narrow_left contents o (tree_of_node s.basis.nodes j) (tree_of_node s.basis.nodes k) (subst (NoneIsWide contents) is to.narrow);
}

right_to : (s : Setting) (contents : Contents) (start : ℕ) (m : NodeId) (x y : Term) (o : _) (j k : ℕ) → node_of s y ≡ Some k
    → tree_of_node s.basis.nodes m.0 ≡ Two o (tree_of_node s.basis.nodes j) (tree_of_node s.basis.nodes k)
    → IsRunTo s contents m.0 start (Bin m x y) → IsRunTo s contents k (start + length (spell x)) y
right_to s contents start m x y o j k gives is to = record {
  gives = gives;
  runs = (both (runnable s y) _ (both (runnable s x) _ to.runs).1).0;
  few = omega (arith, to.few, length-append (spell x) (spell y), length-append (spell x ++ spell y) (step.Bin m ∷ []));
  narrow = narrow_right contents o (tree_of_node s.basis.nodes j) (tree_of_node s.basis.nodes k) (subst (NoneIsWide contents) is to.narrow);
}

-- a run to a node tells its rows
pub run_tells : (s : Setting) (keys : List (List ℕ)) (contents : Contents) → IsRun s keys contents → (y : Term) (n start : ℕ)
    → IsRunTo s contents n start y → RunTells s keys contents start y (tree_of_node s.basis.nodes n)
run_tells s keys contents run (Leaf t) n start to = leaf_run s keys contents run n start t to
run_tells s keys contents run (Enc a x) n start to =
    enc_tells s keys contents n start a x to
    (run_tells s keys contents run x n start (step_to s contents n start (step.Enc a) x (Enc a x) to.gives (both _ _ to.runs).0 refl to))
run_tells s keys contents run (Dec a x) n start to =
    opening_tells (frame_of s keys) (has_group (tree_of_node s.basis.nodes n)) (profile s x) (after_dec a.0 (profile s x)) (2 ^ a.0)
    (dec_opened a.0 (profile s x) (both _ _ to.runs).1) _ _
    (run_tells s keys contents run x n start (step_to s contents n start (step.Dec a) x (Dec a x) to.gives (both _ _ to.runs).0 refl to))
run_tells s keys contents run (Send r x) n start to =
    run_tells s keys contents run x n start (step_to s contents n start (step.Send r) x (Send r x) to.gives (both _ _ to.runs).0 refl to)
run_tells s keys contents run (Un m x) n start to =
    let on = one_operand s m n x to.gives in
    let below = one_to s contents m.0 start m x (op_at s m.0) on.1.operand.0 on.1.gives (one_tree s run.ready m.0 on.1.operand on.1.kind) refl
    (subst (λ i. IsRunTo s contents i start (Un m x)) (sym on.0) to) in
    subst (λ i. RunTells s keys contents start (Un m x) (tree_of_node s.basis.nodes i)) on.0
    (un_tells s keys contents run start m on.1.operand x on.1.kind on.1.gives to.runs below.narrow
    (run_tells s keys contents run x on.1.operand.0 start below))
run_tells s keys contents run (Bin m x y) n start to =
    let on = two_operands s m n x y to.gives in
    let here = subst (λ i. IsRunTo s contents i start (Bin m x y)) (sym on.0) to in
    let tree_is = two_tree s run.ready m.0 on.1.left_operand on.1.right_operand on.1.kind in
    subst (λ i. RunTells s keys contents start (Bin m x y) (tree_of_node s.basis.nodes i)) on.0
    (bin_tells s keys contents run start m on.1.left_operand on.1.right_operand x y on.1.kind here.gives here.runs
    (run_tells s keys contents run x on.1.left_operand.0 start
    (left_to s contents start m x y (op_at s m.0) on.1.left_operand.0 on.1.right_operand.0 on.1.left_gives tree_is here))
    (run_tells s keys contents run y on.1.right_operand.0 (start + length (spell x))
    (right_to s contents start m x y (op_at s m.0) on.1.left_operand.0 on.1.right_operand.0 on.1.right_gives tree_is here)))

-- decoding the encoded run of a term gives the rows of its node
pub runs_decode : RunsDecode
runs_decode s keys contents run n start y to =
    decoding (frame_of s keys) (has_group (tree_of_node s.basis.nodes n)) (profile s y) _ _ (run_tells s keys contents run y n start to)
