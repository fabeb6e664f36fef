use Rattle.std.proofs.Common.{◌≡◌, ◌<◌, ◌≤◌, ◌+◌, ◌-◌, ◌^◌, ℕ, List, Option, Some}
use Rattle.mux_core.specs.RecordRuns.{IsOwn, after_records}
use Rattle.mux_core.specs.Buffer.{IsOutput}
use Rattle.mux_core.proofs.Runs.{Midway}
use Rattle.mux_core.proofs.carrying.carry_all.Given as goal

abbrev pub invariant-records : goal.invariant-records
invariant-records g l = record {
  index : l.index ≤ l.min_next_dts;
  last : l.min_next_dts ≤ 2 ^ 52 + 1;
  counter : l.counter < 16;
  hex : l.packets.hex ≡ l.fn.packets.hex;
  reads : g.R.Source.fault_count l.input ≡ g.R.Source.fault_count l.fn.input;
  writes : g.W.Sink.fault_count l.output ≡ g.W.Sink.fault_count l.fn.output;
  rest : (xs : List ℕ) → g.R.Read.remaining l.fn.input ≡ Some xs → g.R.Read.remaining l.input ≡ Some (after_records l.index xs);
  midway : (start : Option (List ℕ)) (all rest : List ℕ) → IsOutput start (g.W.Write.contents l.fn.output) l.fn.packets all →
      IsOwn (g.R.Read.remaining l.input) rest → (bytes : List ℕ) × IsOwn (g.R.Read.remaining l.fn.input) bytes
      × Midway l.pid l.id l.fn.packets.hex bytes l.min_next_dts l.index l.counter rest start (g.W.Write.contents l.output) l.packets all;
}

abbrev pub decreases-records : goal.decreases-records
decreases-records g l = 2 ^ 52 + 1 - l.min_next_dts
