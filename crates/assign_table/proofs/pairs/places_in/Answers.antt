use Rattle.std.proofs.Common.{◌≡◌, ◌+◌, ◌≤◌, ℕ, Vec, Global, sym, ◌∙◌, ap, subst, arith}
use Rattle.assign_table.specs.inside.Arrivals.{ArePlacesIn}
use Rattle.assign_table.specs.inside.Blocks.{start_of}
use Rattle.assign_table.proofs.ArriveLaws.{start_rise}
use Rattle.assign_table.proofs.ClassLaws.{gathered_more, gathered_skip, places_at_end}
use Rattle.assign_table.proofs.pairs.places_in.Goals.{then-is_in+in_ok-push, else-is_in}
use Rattle.assign_table.proofs.pairs.places_in.Goals as goal

pub block-preserved : goal.block-preserved
block-preserved c =
    let from : ℕ = start_of c.args.gate.starts.now c.from-block.result in
    let low : start_of c.args.gate.starts.now c.from-block.result ≤ c.block.at = omega (arith, c.start-at.ensures.starts, c.block.auto.at) in
    elim c.if-is_in.branch [
      | then-is_in+in_ok-push w ↦
          subst (ArePlacesIn c.args.gate c.args.compared c.args.class.holder.0 c.args.class.sealed from (c.block.at + 1))
          (sym (ap (λ (places : Vec ℕ Global). places.items) w.places-is ∙ w.in_ok-push.ensures.items))
          (gathered_more c.args.gate c.args.compared c.args.class.holder.0 c.args.class.sealed from c.block.at low c.block.places.items
          c.block.invariant (sym c.is_in.ensures ∙ w.if-is_in.true))
      | else-is_in w ↦
          subst (ArePlacesIn c.args.gate c.args.compared c.args.class.holder.0 c.args.class.sealed from (c.block.at + 1))
          (sym (ap (λ (places : Vec ℕ Global). places.items) w.places-is))
          (gathered_skip c.args.gate c.args.compared c.args.class.holder.0 c.args.class.sealed from c.block.at low c.block.places.items
          c.block.invariant (sym c.is_in.ensures ∙ w.if-is_in.false))
    ]

pub returns : goal.returns
returns c =
    let rise : start_of c.args.gate.starts.now c.args.node.0 ≤ start_of c.args.gate.starts.now (c.args.node.0 + 1) =
    start_rise c.args.gate c.requires.gate c.args.node.0 c.requires.before in
    let first : c.start-at.result ≡ start_of c.args.gate.starts.now c.args.node.0 =
    c.start-at.ensures.starts ∙ ap (start_of c.args.gate.starts.now) c.from-block.ensures in
    let last : c.start-at-end.result ≡ start_of c.args.gate.starts.now (c.args.node.0 + 1) =
    c.start-at-end.ensures.starts ∙ ap (λ i. start_of c.args.gate.starts.now (i + 1)) c.from-block.ensures in
    let inside : c.block.at ≤ c.start-at-end.result = c.block.auto.at-end (omega (arith, rise, first, last)) in
    places_at_end c.args.gate c.args.node c.args.compared c.args.class.holder.0 c.args.class.sealed c.from-block.result c.block.at
    c.block.places.items c.from-block.ensures (omega (arith, inside, last, c.block-test.false)) c.block.invariant
