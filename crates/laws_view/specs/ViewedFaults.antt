-- What the report of `tsview` finds, as faults of the monitor.
use Rattle.std.specs.Prelude.{◌≡◌, ℕ, ◌%◌, ◌==◌, ◌&&◌, if◌then◌else◌, List, ◌++◌, length, option_map, Option, Some, None}
use Rattle.std.specs.List.{filter_map}
use Rattle.ts_packet.specs.PidList.{cut_packets}
use Rattle.events.specs.declared.event.Event.{Event}
use Rattle.events.specs.declared.event.Event.TheVariants as found
use Rattle.events.specs.declared.fault_kind.FaultKind.TheVariants as kinds
use Rattle.events.specs.declared.packet_fault.RefusalCause.{RefusalCause}
use Rattle.events.specs.declared.packet_fault.RefusalCause.TheVariants as causes
use Rattle.ts_watch.specs.Choices.{RequestView}
use Rattle.ts_report.specs.StoppedClocks.{stops}
use Rattle.ts_report.specs.Views.{ViewState}
use Rattle.ts_report.specs.Views as views
use Rattle.ts_report.specs.ClockedViews.{ClockedState, after_all, end_events, events_all, start}
use Rattle.monitor.specs.declared.fault.StreamFault.{StreamFault}
use Rattle.monitor.specs.declared.fault.Rule.{Rule}
use Rattle.monitor.specs.declared.fault.Rule.TheVariants as rules
use Rattle.monitor.specs.Rules.{fault}
use Rattle.laws_view.specs.FaultsByRule.{faults_by}

-- why a packet is refused, as a rule
unfoldable pub cause_rule : RefusalCause → Rule
cause_rule causes.SyncByte = rules.Sync
cause_rule causes.Header = rules.Packet
cause_rule causes.TransportError = rules.Error

-- the rule of a table, if both programs judge it alike: NIT and SDT of the actual stream, and TDT
abbrev pub table_rule : ℕ → ℕ → Option Rule
table_rule pid table_id =
    if (pid == 0x10) && (table_id == 0x40) then Some rules.Nit
    else (if (pid == 0x11) && (table_id == 0x42) then Some rules.Sdt
    else (if (pid == 0x14) && (table_id == 0x70) then Some rules.Tdt else None))

-- the fault for an event, if the monitor has a rule for it
unfoldable pub fault_in : Event → Option StreamFault
fault_in (found.Refused r) = Some (fault (cause_rule r.cause) None r.packet)
fault_in (found.Continuity c) = Some (fault rules.Counter (Some c.pid) c.packet)
fault_in (found.CheckWord c) = Some (fault rules.Crc (Some c.pid) c.packet)
fault_in (found.ClockFault kinds.PcrRepetition c) = Some (fault rules.Pcr (Some c.pid) c.packet)
fault_in (found.TableFault kinds.TableRepetition t) = option_map (λ rule. fault rule (Some t.pid) t.packet) (table_rule t.pid t.table)
fault_in event = None

-- the events of packets, also of packets that wait until their arrival is known, and then the events of the end of the stream
abbrev pub events_to_end : ClockedState → List (List ℕ) → ℕ → List Event
events_to_end s packets left = events_all s packets ++ end_events (after_all s packets) left

-- the faults for the events of a report on a whole stream
abbrev pub viewed_faults : RequestView → List ℕ → List StreamFault
viewed_faults request bytes = filter_map fault_in (events_to_end (start request) (cut_packets bytes) (length bytes % 188))

-- by one rule
abbrev pub viewed : Rule → RequestView → List ℕ → List StreamFault
viewed rule request bytes = faults_by rule (viewed_faults request bytes)

-- the faults for the events of packets, without the end
abbrev pub faults_before_end : RequestView → List ℕ → List StreamFault
faults_before_end request bytes = filter_map fault_in (events_all (start request) (cut_packets bytes))

abbrev pub viewed_before_end : Rule → RequestView → List ℕ → List StreamFault
viewed_before_end rule request bytes = faults_by rule (faults_before_end request bytes)

-- the faults of the end are those of tables and clock references that have stopped
abbrev pub EndFaultLaw : Type 0
EndFaultLaw = (s : ViewState) (left : ℕ) → filter_map fault_in (views.end_events s left)
    ≡ filter_map fault_in (stops s.seen.options s.seen.named s.seen.tables s.seen.clocks s.seen.packets)
