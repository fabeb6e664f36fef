-- A view of a multiplexer's output at its rate has no line `excess`: no transport buffer ever holds more than 512 bytes.
use Rattle.std.specs.Prelude.{◌≡◌, ℕ, ◌≤◌, false, List, [], ◌∷◌, flat_map, slice_get, Some, None}
use Rattle.ts_packet.specs.PidList.{cut_packets}
use Rattle.pes_packet.specs.AccessUnits.{AccessUnit}
use Rattle.description_parts.specs.Described.{DescribedStream}
use Rattle.description_parts.specs.Ranges.{IsInRange}
use Rattle.slot_plan.specs.Promised.{Promised}
use Rattle.mux_core.specs.Scheduled.{Scheduled}
use Rattle.mux_core.specs.Headline.{Headline}
use Rattle.mux_core.specs.WholeJobs.{capacity_for, first_refused, job_history, output_of}
use Rattle.arrival.specs.declared.arrival.Arrival.TheVariants.{AtRate}
use Rattle.tstd_rows.specs.Limits.{tb_size}
use Rattle.tstd_rows.specs.Held.{empty, transport_most, transport_under_way}
use Rattle.ts_watch.specs.Choices.{RequestView}
use Rattle.es_events.specs.EntryEvents.{with_one}
use Rattle.es_view.specs.Entries.{EntryState, closed}
use Rattle.ts_report.specs.Views.{after_all, start}
use Rattle.laws_view.specs.StreamPackets.{entered_each, most_packets}
use Rattle.laws_view.specs.WholeStreams.{IsWhole, stream_packets}

-- a stream's transport buffer has no excess: none has ended with any of the stream's packets, none is open at the end, and the line
-- `transport` has at most 512 bytes and no excess
pub record NoExcess (request : RequestView) (rate : ℕ) (packets : List (List ℕ)) (e : EntryState) : Type 0 where
  pub whole : IsWhole request rate packets e
  pub most : transport_most e.held ≤ tb_size
  pub none_ended : flat_map (λ v. v.transport)
      (entered_each (empty rate e.held.rx e.held.main.size) (AtRate rate) (stream_packets request e whole.begun.before (whole.begun.first ∷ whole.begun.later)))
      ≡ []
  pub none_under_way : transport_under_way e.held ≡ None
  pub number : (window : ℕ) → with_one (closed window e).excesses (transport_under_way e.held) ≡ 0

-- in bytes that keep what a multiplexer promises, each stream of the description has no excess, if it is viewed with the rate out of its
-- transport buffer that the description gives
abbrev pub MuxedStreamLaw : Type 0
MuxedStreamLaw = (d : Scheduled) (units : ℕ → List AccessUnit) (slots : ℕ) (bytes : List ℕ) (request : RequestView) (place : ℕ) (e : EntryState) (k : ℕ)
    (s : DescribedStream) →
    IsInRange d.description → Headline d units slots bytes → slots ≤ most_packets → request.options.arrival ≡ AtRate d.description.rate →
    slice_get (after_all (start request) (cut_packets bytes)).table.entries place ≡ Some e → slice_get d.description.streams k ≡ Some s → e.pid ≡ s.pid →
    e.held.rx ≡ s.rx →
    NoExcess request d.description.rate (cut_packets bytes) e

-- the same for a whole job in which every unit is accepted, over one plan that keeps its conditions, or over two plans in turn
abbrev pub JobNoExcessLaw : Type 0
JobNoExcessLaw = (d : Scheduled) (units : List (ℕ × AccessUnit)) (n : ℕ) (request : RequestView) (place : ℕ) (e : EntryState) (k : ℕ) (s : DescribedStream) →
    IsInRange d.description → Promised d.description d.schedule → first_refused d (capacity_for units) [] units ≡ None → n ≤ most_packets →
    request.options.arrival ≡ AtRate d.description.rate →
    slice_get (after_all (start request) (cut_packets (output_of false d (job_history units n)))).table.entries place ≡ Some e →
    slice_get d.description.streams k ≡ Some s → e.pid ≡ s.pid → e.held.rx ≡ s.rx →
    NoExcess request d.description.rate (cut_packets (output_of false d (job_history units n))) e
