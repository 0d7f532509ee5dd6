use Rattle.std.proofs.Common.{◌≡◌, ◌+◌, ◌-◌, ◌<◌, ◌≤◌, [], ◌∷◌, ◌++◌, length, ◌∙◌, sym, ap, arith}
use Rattle.std.proofs.lemmas.List.{length-append}
use Rattle.std.proofs.Math.Path.{subst}
use Rattle.extended_plan.specs.Term.{spell}
use Rattle.assign_table.specs.inside.Ways.{IsToldTo, operand_ways, step_of}
use Rattle.assign_table.proofs.TellLaws.{told-end, told-has, told-length, told-more, told-none}
use Rattle.assign_table.proofs.spell.steps_of.Goals as goal

pub telling-init : goal.telling-init
telling-init c = λ x on.
    let ways : c.push.new.self.items ≡ c.args.way ∷ [] =
    c.in_ok-push.ensures.items ∙ ap (λ ws. ws ++ c.args.way ∷ []) c.new-ways.ensures.items in
    subst (λ ws. IsToldTo c.args.settled.now ws c.new-told.result.items (spell x)) (sym ways)
    (subst (λ told. IsToldTo c.args.settled.now (c.args.way ∷ []) told (spell x)) (sym c.new-told.ensures.items)
    (told-none c.args.settled.now c.args.way x on))

pub tell-requires : goal.tell-requires
tell-requires c =
    told-has c.args.settled.now c.pop.new.self.items c.in-Some.last c.telling.told.items (spell c.requires.term)
    (subst (λ ws. IsToldTo c.args.settled.now ws c.telling.told.items (spell c.requires.term)) c.in-Some.ensures.items
    (c.telling.invariant c.requires.term c.requires.leads))

pub telling-preserved : goal.telling-preserved
telling-preserved c = λ x on.
    subst (λ ws. IsToldTo c.args.settled.now ws c.tell.new.told.items (spell x)) (sym c.in_ok-tell-in-Some.ensures.left)
    (subst (λ told. IsToldTo c.args.settled.now (c.pop.new.self.items ++ operand_ways c.args.settled.now c.in-Some.last) told (spell x))
    (sym c.in_ok-tell-in-Some.ensures.told)
    (told-more c.args.settled.now c.pop.new.self.items c.in-Some.last c.telling.told.items (spell x)
    (subst (λ ws. IsToldTo c.args.settled.now ws c.telling.told.items (spell x)) c.in-Some.ensures.items (c.telling.invariant x on))))

pub telling-smaller : goal.telling-smaller
telling-smaller c =
    let after : IsToldTo c.args.settled.now c.tell.new.ways.items c.tell.new.told.items (spell c.requires.term) =
    telling-preserved c c.requires.term c.requires.leads in
    let long : length c.tell.new.told.items ≤ length (spell c.requires.term) =
    told-length c.args.settled.now c.tell.new.ways.items c.tell.new.told.items (spell c.requires.term) after in
    let more : length c.tell.new.told.items ≡ length c.telling.told.items + 1 =
    ap length c.in_ok-tell-in-Some.ensures.told ∙ length-append c.telling.told.items (step_of c.in-Some.last ∷ []) in
    let few : length (spell c.requires.term) ≤ 200000 = c.requires.few in
    let smaller : 200001 - length c.tell.new.told.items < 200001 - length c.telling.told.items = omega (arith, long, more, few) in
    smaller

pub returns-in-None : goal.returns-in-None
returns-in-None c = λ x on.
    let none : length c.telling.ways.items ≡ 0 = omega (arith, c.in-None.ensures.cases, c.telling.ways.ok) in
    told-end c.args.settled.now c.telling.ways.items c.telling.told.items (spell x) none (c.telling.invariant x on) ∙ sym c.turned.ensures
