use Rattle.std.proofs.Common.{◌≡◌, length}
use Rattle.description_values.specs.Values.{is_distinct}
use Rattle.description_values.proofs.values.is_distinct.Given as goal

abbrev pub invariant-loop-first : goal.invariant-loop-first
invariant-loop-first l = is_distinct l.numbers ≡ is_distinct l.rest

abbrev pub decreases-loop-first : goal.decreases-loop-first
decreases-loop-first l = length l.rest
