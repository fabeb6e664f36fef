use Rattle.std.proofs.Common.{◌≡◌, ◌-◌, ◌^◌, List, ℕ, Option, true, false}
use Rattle.std.specs.Prelude.{option_map}
use Rattle.devices.specs.Devices.{between}
use Rattle.on_air.specs.Airing.{Run, silence}
use Rattle.on_air.specs.AirStates.{IsOnAir}
use Rattle.tsair_cli.specs.States.{saving_of}
use Rattle.tsair_cli.proofs.HeardRecords.{Midway}
use Rattle.tsair_cli.proofs.hearing.hear_all.Given as goal

abbrev pub invariant-records : goal.invariant-records
invariant-records g l = record {
  reads : g.R.Source.fault_count l.input ≡ g.R.Source.fault_count l.fn.input;
  writes : g.W.Sink.fault_count l.output ≡ g.W.Sink.fault_count l.fn.output;
  stops : l.fn.asked.options.stop ≡ true → l.has_refused ≡ false;
  known : (run : Run) (start : Option (List ℕ)) → IsOnAir run silence start (g.W.Write.contents l.fn.output) l.fn.on_air →
      Midway (saving_of (g.F.OutputFiles.creates l.fn.files) (g.F.OutputFiles.keeps l.fn.files) (option_map (λ s. s.now) l.fn.asked.state)) run
      (g.R.Read.remaining l.fn.input) (g.R.Read.remaining l.input) start (g.W.Write.contents l.output)
      (between (record { bytes = g.E.Write.contents l.fn.faults; failed = g.E.Sink.fault_count l.fn.faults })
      (record { bytes = g.E.Write.contents l.faults; failed = g.E.Sink.fault_count l.faults })) l.has_refused l.has_lost l.repeats (option_map (λ v. v.items) l.limits) l.on_air;
}

abbrev pub decreases-records : goal.decreases-records
decreases-records g l = 2 ^ 64 - 1 - l.on_air.records
