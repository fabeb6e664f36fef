-- The buffer that a fault is about: a buffer of a stream that held more than its size.
use Rattle.std.specs.Prelude.{ℕ, Option, Some, None}
use Rattle.events.specs.declared.fault.Fault.{Fault}
use Rattle.events.specs.declared.fault_kind.FaultKind.{FaultKind}
use Rattle.events.specs.declared.fault_kind.FaultKind.TheVariants as kinds
use Rattle.events.specs.declared.fault_kind.FaultSource.{FaultSource}
use Rattle.events.specs.declared.fault_kind.FaultSource.TheVariants as sources
use Rattle.events.specs.declared.rule_event.BufferKind.{BufferKind}
use Rattle.events.specs.declared.rule_event.BufferKind.TheVariants.{Transport, Multiplexing, Elementary, Main}
use Rattle.view_rows.specs.declared.fault_rows.FaultBuffer.{FaultBuffer}

unfoldable pub buffer_at : BufferKind → FaultSource → Option FaultBuffer
buffer_at kind (sources.Stream pid) = Some (record { pid = pid; kind = kind })
buffer_at kind _ = None

unfoldable pub buffer_of : FaultKind → FaultSource → Option FaultBuffer
buffer_of kinds.Excess source = buffer_at Transport source
buffer_of kinds.MultiplexingExcess source = buffer_at Multiplexing source
buffer_of kinds.ElementaryExcess source = buffer_at Elementary source
buffer_of kinds.MainExcess source = buffer_at Main source
buffer_of _ source = None

unfoldable pub fault_buffer : Option Fault → Option FaultBuffer
fault_buffer None = None
fault_buffer (Some fault) = buffer_of fault.kind fault.source
