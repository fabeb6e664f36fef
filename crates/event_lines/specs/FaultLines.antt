-- The lines of faults of packets and sections (docs/VIEW.md).
use Rattle.std.specs.Prelude.{ℕ, Bool, List, [], ◌∷◌, codes}
use Rattle.events.specs.declared.packet_fault.CheckWordFault.{CheckWordFault}
use Rattle.events.specs.declared.packet_fault.CounterFault.{CounterFault}
use Rattle.events.specs.declared.packet_fault.RefusalCause.{RefusalCause}
use Rattle.events.specs.declared.packet_fault.RefusalCause.TheVariants as causes
use Rattle.events.specs.declared.packet_fault.RefusedPacket.{RefusedPacket}
use Rattle.event_lines.specs.ReportLines.{line_of, number_field, word_field}

unfoldable pub cause_word : RefusalCause → List ℕ
cause_word causes.SyncByte = codes "sync_byte"
cause_word causes.Header = codes "header"
cause_word causes.TransportError = codes "transport_error"

abbrev pub refused_line : Bool → RefusedPacket → List ℕ
refused_line json e = line_of json (codes "refused")
    (number_field (codes "packet") e.packet ∷ word_field (codes "cause") (cause_word e.cause) ∷ [])

abbrev pub continuity_line : Bool → CounterFault → List ℕ
continuity_line json e = line_of json (codes "continuity")
    (number_field (codes "pid") e.pid ∷ number_field (codes "packet") e.packet ∷ number_field (codes "expected") e.expected
    ∷ number_field (codes "found") e.found ∷ [])

abbrev pub check_word_line : Bool → CheckWordFault → List ℕ
check_word_line json e = line_of json (codes "check_word") (number_field (codes "pid") e.pid ∷ number_field (codes "packet") e.packet ∷ [])
