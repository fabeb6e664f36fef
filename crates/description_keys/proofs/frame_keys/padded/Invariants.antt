use Rattle.std.proofs.Common.{◌≡◌, ◌++◌, replicate}
use Rattle.description_keys.proofs.frame_keys.padded.Given as goal

abbrev pub invariant-loop : goal.invariant-loop
invariant-loop l = l.all.items ≡ l.initial.all.items ++ replicate l.counter 0
