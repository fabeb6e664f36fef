use Rattle.std.proofs.Common.{arith, append_assoc}
use Rattle.std.proofs.lemmas.Grind.{common_steps}
use Rattle.description.proofs.Entries.{shared_in_parts}
use Rattle.description.proofs.program_map.push_shared.Goals as goal

pub loop-stream-preserved : goal.loop-stream-preserved
loop-stream-preserved c = record {
  streams = grind (arith, common_steps, shared_in_parts, append_assoc);
  length = grind (arith, common_steps);
}
