use Rattle.std.proofs.Common.{◌≡◌, ◌≤◌, ◌-◌, ℕ, None, length}
use Rattle.capture.proofs.SettledParts.{Keeps}
use Rattle.capture.proofs.settling.settle_plain.Given as goal

abbrev pub invariant-loop-at : goal.invariant-loop-at
invariant-loop-at g l = record {
  within : l.at ≤ length l.bytes;
  settled : Keeps g.T.PartTaker.has_taken None l.fn.place l.bytes l.ended l.fn.taker l.place l.taker l.at;
}

abbrev pub decreases-loop-at : goal.decreases-loop-at
decreases-loop-at g l = length l.bytes - l.at
