use Rattle.std.proofs.Common.{arith}
use Rattle.std.proofs.lemmas.Grind.{common_steps}
use Rattle.std.proofs.lemmas.List.Elements.{filter_map-append}
use Rattle.description_keys.proofs.frame_keys.numbers_in.Goals as goal

pub loop-value-preserved : goal.loop-value-preserved
loop-value-preserved c = record {
  items = grind (arith, common_steps, filter_map-append);
  few = grind (arith, common_steps);
}
