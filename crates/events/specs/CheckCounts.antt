-- How often each check of ETSI TR 101 290 fails, and where first and last, by the faults of a stream.
use Rattle.std.specs.Prelude.{◌+◌, ◌-◌, ◌^◌, ◌==◌, ◌&&◌, ◌||◌, not, min, if◌then◌else◌, Bool, true, false, List, map, Option, Some, None}
use Rattle.events.specs.declared.check.Check.{Check}
use Rattle.events.specs.declared.check.Check.TheVariants as checks
use Rattle.events.specs.declared.check_counts.CheckCount.{CheckCount}
use Rattle.events.specs.declared.check_counts.CheckCounts.{CheckCounts}
use Rattle.events.specs.declared.check_counts.CheckTotals.{CheckTotals}
use Rattle.events.specs.declared.check_counts.FaultCount.{FaultCount}
use Rattle.events.specs.declared.check_counts.StreamTime.{StreamTime}
use Rattle.events.specs.declared.check_counts.NoVerdict.{NoVerdict}
use Rattle.events.specs.declared.check_counts.NoVerdict.TheVariants.{NoClock, VariableRate}
use Rattle.events.specs.declared.check_counts.TheConstants.{NO_FAULTS}
use Rattle.events.specs.declared.event.Event.{Event}
use Rattle.events.specs.declared.event.Event.TheVariants as events
use Rattle.events.specs.declared.fault.Fault.{Fault}
use Rattle.events.specs.Checks.{place_of}
use Rattle.events.specs.FaultKinds.{check_of, is_si_repetition}

-- 1. One fault more: the count stops at 2^64 - 1

abbrev pub with_fault : FaultCount → Fault → FaultCount
with_fault c fault = record {
  faults = min (c.faults + 1) (2 ^ 64 - 1);
  first = if c.faults == 0 then fault.packet else c.first;
  last = fault.packet;
  from = if c.faults == 0 then fault.from else c.from;
  to = fault.to;
}

-- the check that a fault fails is this one
unfoldable pub is_check : Option Check → Check → Bool
is_check None check = false
is_check (Some found) check = place_of found == place_of check

-- SI_repetition_error (5.2.3, 3.2) fails in addition to the check of a table
abbrev pub fails : Check → Fault → Bool
fails check fault =
    is_check (check_of fault.kind fault.source) check || (is_si_repetition fault.kind fault.source && place_of check == place_of checks.SiRepetition)

abbrev pub row_with : Fault → CheckCount → CheckCount
row_with fault row = if fails row.check fault then record { check = row.check; count = with_fault row.count fault } else row

-- 2. Faults one after another

abbrev pub no_faults : CheckCounts
no_faults = record { rows = NO_FAULTS }

abbrev pub with_counted : CheckCounts → Fault → CheckCounts
with_counted c fault = record { rows = map (row_with fault) c.rows }

-- 3. The row of each check

-- a check that is about times
unfoldable pub is_timed : Check → Bool
is_timed checks.SyncLoss = false
is_timed checks.SyncByte = false
is_timed checks.Continuity = false
is_timed checks.Pid = false
is_timed checks.Transport = false
is_timed checks.Crc = false
is_timed checks.PcrDiscontinuity = false
is_timed checks.Cat = false
is_timed checks.Unreferenced = false
is_timed _ = true

-- no verdict on times for a recording whose packets have no moment, and none on the accuracy of clock references for a recording whose rate varies
abbrev pub no_verdict_of : Check → StreamTime → Option NoVerdict
no_verdict_of check time =
    if not time.clocked && is_timed check then Some NoClock
    else (if time.varies && place_of check == place_of checks.PcrAccuracy then Some VariableRate else None)

abbrev pub totals_of : StreamTime → CheckCount → CheckTotals
totals_of time row = record { check = row.check; count = row.count; no_verdict = no_verdict_of row.check time }

abbrev pub events_of : StreamTime → List CheckCount → List Event
events_of time rows = map (λ row. events.Check (totals_of time row)) rows

abbrev pub rows : StreamTime → CheckCounts → List Event
rows time c = events_of time c.rows
