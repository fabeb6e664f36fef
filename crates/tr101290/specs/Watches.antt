-- The references of a PID, one after another.
use Rattle.std.specs.Prelude.{None}
use Rattle.arrival.specs.declared.clock.PcrSample.{PcrSample}
use Rattle.arrival.specs.Clock.{ClockState, state_after}
use Rattle.tr101290.specs.declared.watch.PcrTiming.{PcrTiming}
use Rattle.tr101290.specs.declared.counts.PcrCounts.{PcrCounts}
use Rattle.tr101290.specs.Measures.{report_after}
use Rattle.tr101290.specs.Counts.{none_counted, counted}

-- how references are measured, the clock that they give, and the counts of the reports on them
pub record PcrState : Type 0 where
  pub timing : PcrTiming
  pub clock : ClockState
  pub counts : PcrCounts

abbrev pub no_reference : PcrTiming → PcrState
no_reference timing = record { timing = timing; clock = record { last = None; line = None }; counts = none_counted }

abbrev pub taken : PcrState → PcrSample → PcrState
taken s sample = record {
  timing = s.timing;
  clock = state_after s.clock sample;
  counts = counted s.counts (report_after s.timing s.clock sample);
}
