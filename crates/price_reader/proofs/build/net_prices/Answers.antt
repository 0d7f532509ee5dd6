use Rattle.std.proofs.Common.{refl}
use Rattle.price_reader.proofs.PaddedLaws.{all_fit-start}
use Rattle.price_reader.proofs.build.net_prices.Goals as goal

pub loop-place-init : goal.loop-place-init
loop-place-init c = record { made = refl; fits = all_fit-start 16 }
