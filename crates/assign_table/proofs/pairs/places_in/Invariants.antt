use Rattle.assign_table.specs.inside.Arrivals.{ArePlacesIn}
use Rattle.assign_table.specs.inside.Blocks.{start_of}
use Rattle.assign_table.proofs.pairs.places_in.Given as goal

abbrev pub invariant-block : goal.invariant-block
invariant-block l =
    ArePlacesIn l.gate l.compared l.class.holder.0 l.class.sealed (start_of l.gate.starts.now l.block) l.at l.places.items
