-- The references of each PID of a stream, packet by packet.
use Rattle.std.specs.Prelude.{ℕ, nat_eq, List, [], Option, Some, None}
use Rattle.std.specs.Map.{lookup}
use Rattle.indexmap.specs.IndexMap.{insert_entry}
use Rattle.ts_packet.specs.Views.{PacketView}
use Rattle.arrival.specs.declared.clock.PcrSample.{PcrSample}
use Rattle.tr101290.specs.declared.watch.PcrTiming.{PcrTiming}
use Rattle.tr101290.specs.declared.report.PcrReport.{PcrReport}
use Rattle.tr101290.specs.Samples.{pcr_sample}
use Rattle.tr101290.specs.Measures.{report_after}
use Rattle.tr101290.specs.Watches.{PcrState, no_reference}
use Rattle.tr101290.specs.Watches as watch

-- how references are measured, and the watches of the PIDs with references, in the order of their first references
pub record WatchesState : Type 0 where
  pub timing : PcrTiming
  pub watches : List (ℕ × PcrState)

abbrev pub no_packet : PcrTiming → WatchesState
no_packet timing = record { timing = timing; watches = [] }

unfoldable pub watch_or_new : PcrTiming → Option PcrState → PcrState
watch_or_new timing None = no_reference timing
watch_or_new timing (Some watch) = watch

abbrev pub watch_of : WatchesState → ℕ → PcrState
watch_of s pid = watch_or_new s.timing (lookup (nat_eq pid) s.watches)

-- after a reference of a PID, and the report on it
abbrev pub with_sample : WatchesState → ℕ → PcrSample → WatchesState
with_sample s pid sample = record { timing = s.timing; watches = insert_entry nat_eq s.watches pid (watch.taken (watch_of s pid) sample) }

abbrev pub sample_report : WatchesState → ℕ → PcrSample → PcrReport
sample_report s pid sample = report_after (watch_of s pid).timing (watch_of s pid).clock sample

unfoldable pub taken_if : WatchesState → ℕ → Option PcrSample → WatchesState
taken_if s pid None = s
taken_if s pid (Some sample) = with_sample s pid sample

unfoldable pub report_if : WatchesState → ℕ → Option PcrSample → Option PcrReport
report_if s pid None = None
report_if s pid (Some sample) = Some (sample_report s pid sample)

-- after a packet, and the report on its reference
abbrev pub taken : WatchesState → ℕ → PacketView → WatchesState
taken s index packet = taken_if s packet.header.pid (pcr_sample index packet)

abbrev pub report_at : WatchesState → ℕ → PacketView → Option PcrReport
report_at s index packet = report_if s packet.header.pid (pcr_sample index packet)
