use Rattle.std.proofs.Common.{◌≡◌, ℕ, ◌+◌, ◌≤◌, drop, true}
use Rattle.tstd.specs.BufferedUnits.{all_bytes, all_until}
use Rattle.tstd.proofs.buffered_units.tally.Given as goal

abbrev pub invariant-loop-unit : goal.invariant-loop-unit
invariant-loop-unit l = record {
  bytes : l.bytes + all_bytes (drop l.unit-index l.units) ≡ all_bytes l.units;
  until : (n : ℕ) → n ≤ l.until → all_until n (drop l.unit-index l.units) ≡ true → all_until n l.units ≡ true;
}
