use Rattle.std.proofs.Common.{◌≤◌, ℕ, ◌-◌, List, length, drop}
use Rattle.job_run.specs.Streams.{IsCarriedTo}
use Rattle.job_run.proofs.carried_stream.CarriedPackets.take_decided.Given as goal

abbrev pub invariant-loop-at : goal.invariant-loop-at
invariant-loop-at l = record {
  within : l.at ≤ length l.bytes;
  carried : (stream : List ℕ) → IsCarriedTo stream l.ended (record { held = l.bytes; packets = l.fn.self }) →
      IsCarriedTo stream l.ended (record { held = drop l.at l.bytes; packets = l.self });
}

abbrev pub decreases-loop-at : goal.decreases-loop-at
decreases-loop-at l = length l.bytes - l.at
