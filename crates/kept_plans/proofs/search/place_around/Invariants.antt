use Rattle.std.proofs.Common.{◌≡◌, length}
use Rattle.kept_plans.proofs.search.place_around.Given as goal

abbrev pub invariant-loop-at : goal.invariant-loop-at
invariant-loop-at g l = length l.slots.items ≡ l.at
