-- Events of times without a packet of a PID (ETSI TR 101 290, 5.2.1, 1.6 PID_error).
use Rattle.std.specs.Prelude.{if◌then◌else◌, List, [], ◌∷◌, flat_map, Option, Some, None}
use Rattle.ts_tables.specs.NamedStreams.{NamedView}
use Rattle.events.specs.declared.event.ClockFault.{ClockFault}
use Rattle.events.specs.declared.event.Event.{Event}
use Rattle.events.specs.declared.event.Event.TheVariants as found
use Rattle.events.specs.declared.fault_kind.FaultKind.TheVariants.{PidRepetition}
use Rattle.packet_times.specs.Watched.{is_watched}

-- of a PID that the first tables name as video or audio
abbrev pub watched_event : NamedView → ClockFault → List Event
watched_event named gap = if is_watched named gap.pid then found.ClockFault PidRepetition gap ∷ [] else []

unfoldable pub gap_event_if : NamedView → Option ClockFault → List Event
gap_event_if named None = []
gap_event_if named (Some gap) = watched_event named gap

abbrev pub gap_events : NamedView → List ClockFault → List Event
gap_events named gaps = flat_map (watched_event named) gaps
