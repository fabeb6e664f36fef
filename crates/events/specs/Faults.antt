-- The fault that an event reports: its kind, its source, its packet, its moments, and its value and limit.
use Rattle.std.specs.Prelude.{ℕ, ◌-◌, Option, Some, None}
use Rattle.events.specs.declared.event.BufferExcess.{BufferExcess}
use Rattle.events.specs.declared.event.ClockFault.{ClockFault}
use Rattle.events.specs.declared.event.Event.{Event}
use Rattle.events.specs.declared.event.Event.TheVariants as events
use Rattle.events.specs.declared.event.TableFault.{TableFault}
use Rattle.events.specs.declared.fault.Fault.{Fault}
use Rattle.events.specs.declared.fault.Measured.{Measured}
use Rattle.events.specs.declared.fault_kind.FaultKind.{FaultKind}
use Rattle.events.specs.declared.fault_kind.FaultKind.TheVariants as kinds
use Rattle.events.specs.declared.fault_kind.FaultSource.{FaultSource}
use Rattle.events.specs.declared.fault_kind.FaultSource.TheVariants.{Whole, Stream, Table}
use Rattle.events.specs.declared.input_event.InputEvent.{InputEvent}
use Rattle.events.specs.declared.input_event.StampJump.{StampJump}
use Rattle.events.specs.declared.input_event.InputEvent.TheVariants as inputs
use Rattle.events.specs.declared.packet_fault.RefusalCause.{RefusalCause}
use Rattle.events.specs.declared.packet_fault.RefusalCause.TheVariants as causes
use Rattle.events.specs.declared.rule_event.BufferStay.{BufferStay}
use Rattle.events.specs.declared.rule_event.RuleEvent.{RuleEvent}
use Rattle.events.specs.declared.rule_event.RuleEvent.TheVariants as rules
use Rattle.events.specs.BufferKinds.{excess_kind, owner_of}

-- 1. Forms

-- a fault at a packet, at its moment if that is known
abbrev pub point : FaultKind → FaultSource → ℕ → Option ℕ → Fault
point kind source packet at = record { kind = kind; source = source; packet = packet; from = at; to = at; measured = None }

abbrev pub stream : ℕ → FaultSource
stream pid = Stream pid

abbrev pub measured_fault : FaultKind → FaultSource → ℕ → Option ℕ → Measured → Fault
measured_fault kind source packet at measured =
    record { kind = kind; source = source; packet = packet; from = at; to = at; measured = Some measured }

-- over a time
abbrev pub span : FaultKind → FaultSource → ℕ → ℕ → ℕ → Measured → Fault
span kind source packet begin end measured =
    record { kind = kind; source = source; packet = packet; from = Some begin; to = Some end; measured = Some measured }

-- 2. By events

abbrev pub excess_fault : BufferExcess → Fault
excess_fault e = span (excess_kind e.buffer) (owner_of e.buffer e.number) e.packet e.begin e.end (record { value = e.peak; limit = e.size })

-- a unit is late from its DTS to the moment of its last byte
abbrev pub late_fault : FaultKind → ℕ → ℕ → ℕ → ℕ → ℕ → Fault
late_fault kind pid packet due left by = span kind (Stream pid) packet due left (record { value = by; limit = 0 })

abbrev pub clock_fault : FaultKind → ClockFault → Option ℕ → Fault
clock_fault kind e at = measured_fault kind (Stream e.pid) e.packet at (record { value = e.value; limit = e.limit })

abbrev pub table_fault : FaultKind → TableFault → Option ℕ → Fault
table_fault kind e at = measured_fault kind (Table e.pid e.table) e.packet at (record { value = e.value; limit = e.limit })

abbrev pub stay_fault : FaultKind → BufferStay → Fault
stay_fault kind e = span kind (owner_of e.buffer e.number) e.packet e.begin e.end (record { value = e.end - e.begin; limit = e.limit })

unfoldable pub kind_of_cause : RefusalCause → FaultKind
kind_of_cause causes.SyncByte = kinds.SyncByte
kind_of_cause causes.Header = kinds.Header
kind_of_cause causes.TransportError = kinds.TransportError

-- an arrival time stamp that does not continue the stamps before it
abbrev pub jump_fault : StampJump → Option ℕ → Fault
jump_fault e at = measured_fault kinds.StampJump Whole e.packet at (record { value = e.value; limit = e.limit })

-- packets of another size are no fault
unfoldable pub input_fault : InputEvent → Option ℕ → Option Fault
input_fault (inputs.Slip e) at = Some (point kinds.Slip Whole e.packet at)
input_fault (inputs.PacketSize size) at = None
input_fault inputs.Empty at = Some (point kinds.Empty Whole 0 None)
input_fault (inputs.NoStream form) at = Some (point kinds.NoStream Whole 0 None)
input_fault (inputs.OtherRate e) at = Some (point kinds.OtherRate (Stream e.pid) 0 None)
input_fault (inputs.Rest e) at = Some (point kinds.Rest Whole e.packet at)
input_fault inputs.NoStamps at = Some (point kinds.NoStamps Whole 0 None)
input_fault (inputs.StampJump e) at = Some (jump_fault e at)

unfoldable pub rule_fault : RuleEvent → Option ℕ → Option Fault
rule_fault (rules.OtherTable e) at = Some (point kinds.OtherTable (Table e.pid e.table) e.packet at)
rule_fault (rules.ScrambledTable e) at = Some (point kinds.ScrambledTable (Stream e.pid) e.packet at)
rule_fault (rules.NoCat e) at = Some (point kinds.NoCat (Stream e.pid) e.packet at)
rule_fault (rules.NoTable e) at = Some (point kinds.NoTable (Table e.pid e.table) 0 None)
rule_fault (rules.NotEmpty e) at = Some (stay_fault kinds.NotEmpty e)
rule_fault (rules.Delayed e) at = Some (stay_fault kinds.Delayed e)
rule_fault (rules.VariableRate e) at = None
rule_fault (rules.ClockWindow e) at = None
rule_fault (rules.FaultTrace e) at = None

unfoldable pub buffer_fault : Event → Option ℕ → Option Fault
buffer_fault (events.Excess e) at = Some (excess_fault e)
buffer_fault (events.Late e) at = Some (late_fault kinds.Late e.pid e.packet e.due e.left e.by)
buffer_fault (events.ElementaryLate e) at = Some (late_fault kinds.ElementaryLate e.pid e.packet e.due e.left e.by)
buffer_fault (events.Ahead e) at = Some (measured_fault kinds.Ahead (Stream e.pid) e.packet at (record { value = e.by; limit = e.limit }))
buffer_fault _ at = None

unfoldable pub fault_of : Event → Option ℕ → Option Fault
fault_of (events.Input e) at = input_fault e at
fault_of (events.ClockFault kind e) at = Some (clock_fault kind e at)
fault_of (events.TableFault kind e) at = Some (table_fault kind e at)
fault_of (events.Unclocked e) at = Some (point kinds.Unclocked Whole e.packet None)
fault_of (events.Refused e) at = Some (point (kind_of_cause e.cause) Whole e.packet at)
fault_of (events.Continuity e) at = Some (point kinds.Continuity (Stream e.pid) e.packet at)
fault_of (events.CheckWord e) at = Some (point kinds.CheckWord (Stream e.pid) e.packet at)
fault_of (events.Unreferenced e) at = Some (point kinds.Unreferenced (Stream e) 0 None)
fault_of (events.Missing e) at = Some (point kinds.Missing (Stream e) 0 None)
fault_of (events.Rule e) at = rule_fault e at
fault_of event at = buffer_fault event at
