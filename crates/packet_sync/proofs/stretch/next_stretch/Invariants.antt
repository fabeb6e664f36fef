use Rattle.std.proofs.Common.{◌≡◌, ◌≤◌, ℕ, ◌-◌, ◌*◌, List, [], ◌++◌, true, length}
use Rattle.packet_sync.proofs.Stretches.{SoFar, Steady}
use Rattle.packet_sync.proofs.stretch.next_stretch.Given as goal

abbrev pub invariant-loop-at : goal.invariant-loop-at
invariant-loop-at l = record {
  within : l.at ≤ length l.bytes;
  packets : (n : ℕ) × (l.at ≡ 188 * n);
  steady : (more : List ℕ) → (l.ended ≡ true → more ≡ []) → Steady (l.bytes ++ more) l.at;
  carried : (more : List ℕ) → (l.ended ≡ true → more ≡ []) → SoFar l.bytes more l.at;
}

abbrev pub decreases-loop-at : goal.decreases-loop-at
decreases-loop-at l = length l.bytes - l.at
