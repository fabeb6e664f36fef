use Rattle.std.proofs.lemmas.Grind.{common_steps}
use Rattle.std.proofs.lemmas.List.Elements.{filter_map-append}
use Rattle.std.proofs.Common.{arith}
use Rattle.on_air.proofs.gone.gone_after.Goals as goal

pub loop-pid-preserved : goal.loop-pid-preserved
loop-pid-preserved c = grind (arith, common_steps, filter_map-append)
