use Rattle.std.proofs.Common.{◌≡◌, ◌≤◌, ◌-◌, ℕ, Bool, Some, length}
use Rattle.capture.specs.declared.place.Place.{Place}
use Rattle.capture.proofs.SettledParts.{Keeps}
use Rattle.capture.proofs.settling.settle_other.Given as goal

abbrev pub invariant-loop-at : goal.invariant-loop-at
invariant-loop-at g l = record {
  within : l.at ≤ length l.bytes;
  settled : (p : Place) (ended : Bool) → Keeps g.T.PartTaker.has_taken (Some l.other) p l.bytes ended l.fn.taker p l.taker l.at;
}

abbrev pub decreases-loop-at : goal.decreases-loop-at
decreases-loop-at g l = length l.bytes - l.at
