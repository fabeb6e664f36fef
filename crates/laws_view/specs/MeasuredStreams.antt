-- The figures of a stream that is viewed at a constant rate, and what `tstd::measure` finds of the same bytes.
use Rattle.std.specs.Prelude.{◌≡◌, ℕ, ◌≤◌, List, []}
use Rattle.ts_packet.specs.PidList.{cut_packets}
use Rattle.tstd.specs.PidPackets.{packets_from}
use Rattle.description_parts.specs.Described.{DescribedStream}
use Rattle.pes_packet.specs.AccessUnits.{AccessUnit}
use Rattle.tstd.specs.Carried.{packets_on}
use Rattle.tstd.specs.Measured.{IsStreamFullness}
use Rattle.tstd.specs.declared.fullness.StreamFullness.{StreamFullness}
use Rattle.tstd_rows.specs.Held.{transport_most}
use Rattle.ts_watch.specs.Choices.{RequestView}
use Rattle.es_view.specs.Entries.{EntryState}
use Rattle.laws_view.specs.WholeStreams.{IsWhole}

-- the most in the transport buffer is no more than what measuring all packets of the PID finds, and the same where its buffers begin with
-- the first of them
abbrev pub MeasuredStreamLaw : Type 0
MeasuredStreamLaw = (request : RequestView) (rate base0 : ℕ) (bytes : List ℕ) (e : EntryState) (s : DescribedStream) (units : List AccessUnit)
    (f : StreamFullness) →
    (whole : IsWhole request rate (cut_packets bytes) e) → e.pid ≡ s.pid → e.held.rx ≡ s.rx → IsStreamFullness rate base0 s units (packets_on s.pid bytes) f →
    (transport_most e.held ≤ f.transport) × (packets_from s.pid 0 whole.begun.before ≡ [] → transport_most e.held ≡ f.transport)
