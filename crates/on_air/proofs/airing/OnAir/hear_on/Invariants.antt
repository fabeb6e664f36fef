use Rattle.std.proofs.Common.{◌≡◌, ◌≤◌, ◌-◌, ◌^◌, ℕ, List, Option}
use Rattle.on_air.specs.Airing.{Run}
use Rattle.on_air.specs.Courses.{Course}
use Rattle.on_air.specs.AirStates.{IsOut}
use Rattle.on_air.specs.Hearing.{HasHeard, IsOn}
use Rattle.on_air.proofs.HeardRecords.{Midway}
use Rattle.on_air.proofs.airing.OnAir.hear_on.Given as goal

abbrev pub invariant-records : goal.invariant-records
invariant-records g l = record {
  rises : l.fn.self.records ≤ l.self.records;
  out : IsOut (g.R.HeldInput.held l.input) l.self;
  reads : g.R.Source.fault_count l.input ≡ g.R.Source.fault_count l.fn.input;
  writes : g.W.Sink.fault_count l.to ≡ g.W.Sink.fault_count l.fn.to;
  known : (first : Run) (n : ℕ) (c : Course) (origin start : Option (List ℕ)) → IsOn c start (g.W.Write.contents l.fn.to) l.fn.self →
      HasHeard first n c origin (g.R.Read.remaining l.fn.input) → Midway first c origin start (g.R.Read.remaining l.input) (g.W.Write.contents l.to) l.self;
}

abbrev pub decreases-records : goal.decreases-records
decreases-records g l = 2 ^ 64 - 1 - l.self.records
