use Rattle.std.proofs.Common.{◌≡◌, max, drop}
use Rattle.page_curves.specs.Slots.{greatest_of}
use Rattle.page_curves.proofs.slots.greatest_of.Given as goal

abbrev pub invariant-loop-bounds : goal.invariant-loop-bounds
invariant-loop-bounds l = max l.greatest (greatest_of (drop l.bounds-index l.slots)) ≡ greatest_of l.slots
