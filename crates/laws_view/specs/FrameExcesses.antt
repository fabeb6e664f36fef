-- Of what a multiplexer wrote, viewed at its rate by access units, no main buffer of sound ever holds more than its size, with each access unit
-- removed at its own decoding time (ISO/IEC 13818-1, 2.4.2.3).
--
-- The description declares the access units of such a stream (`frame`, `frames`, `frame_size`). The bytes of a unit do not say where one ends: so
-- a cut of the units into access units is given, as the description declares them, and the view finds the access units of that cut.
use Rattle.std.specs.Prelude.{◌≡◌, ℕ, ◌+◌, ◌≤◌, false, List, [], ◌∷◌, ◌++◌, drop, length, replicate, slice_get, Some, None, All}
use Rattle.std.specs.List.{sum}
use Rattle.ts_packet.specs.PidList.{cut_packets}
use Rattle.slot_contents.specs.Contents.{run_bytes}
use Rattle.pes_packet.specs.AccessUnits.{AccessUnit}
use Rattle.pes_packet.specs.Units.{units_of}
use Rattle.description_parts.specs.Described.{DescribedStream}
use Rattle.description_parts.specs.Ranges.{IsInRange}
use Rattle.slot_plan.specs.Promised.{Promised}
use Rattle.unit_timing.specs.AccessUnits.{FramedPacket}
use Rattle.unit_timing.specs.declared.framing.FrameDeclaration.{FrameDeclaration}
use Rattle.tstd.specs.PacketLists.{payloads_from}
use Rattle.tstd.specs.Removal.{removal_time}
use Rattle.mux_core.specs.FramesKept.{CutsUnits}
use Rattle.mux_core.specs.Scheduled.{Scheduled}
use Rattle.mux_core.specs.Headline.{UnitsKept}
use Rattle.mux_core.specs.Histories.{content_at}
use Rattle.mux_core.specs.WholeJobs.{capacity_for, first_refused, job_history, output_of}
use Rattle.tstd_rows.specs.History.{Part, until_of}
use Rattle.tstd_rows.specs.History.Part.{Passes, Carries, Begins}
use Rattle.tstd_rows.specs.Held.{main_most}
use Rattle.ts_watch.specs.Choices.{RequestView}
use Rattle.es_view.specs.Entries.{EntryState, Framed}
use Rattle.ts_report.specs.Views.{after_all, start}
use Rattle.laws_view.specs.StreamPackets.{most_packets}
use Rattle.laws_view.specs.ViewedRuns.{IsViewedAs}
use Rattle.laws_view.specs.WholeStreams.{IsWhole}

-- ---- when the bytes of a stream are gone from its main buffer, one after another

-- in a view, by the parts that have come: a byte before the first unit does not stay
unfoldable pub gone_seen : List Part → List ℕ
gone_seen [] = []
gone_seen (Passes times ∷ before) = gone_seen before
gone_seen (Carries times ∷ before) = gone_seen before ++ replicate (length times) (until_of before)
gone_seen (Begins due ∷ before) = gone_seen before

-- by a cut: access units of these sizes that are `apart` units of 90 kHz after one another, the first of them due at `due`
unfoldable pub gone_units : ℕ → ℕ → ℕ → ℕ → List ℕ → List ℕ
gone_units rate rx apart due [] = []
gone_units rate rx apart due (size ∷ sizes) = replicate size (removal_time rate rx due) ++ gone_units rate rx apart (due + apart) sizes

unfoldable pub gone_cut : ℕ → ℕ → ℕ → List FramedPacket → List ℕ
gone_cut rate rx apart [] = []
gone_cut rate rx apart (p ∷ packets) = gone_units rate rx apart p.packet.dts p.access_units ++ gone_cut rate rx apart packets

-- each byte of the first list is gone no later than the byte at the same place of the second
unfoldable pub GoneBy : List ℕ → List ℕ → Type 0
GoneBy [] us = Unit {0}
GoneBy (t ∷ ts) [] = ⊥
GoneBy (t ∷ ts) (u ∷ us) = (t ≤ u) × GoneBy ts us

-- a cut whose access units are all bytes of the units, and a view of the stream whose buffers begin after these packets: it finds the access
-- units of the cut, so it removes no byte later than the cut does
pub record SeenAs (rate : ℕ) (s : DescribedStream) (framing : FrameDeclaration) (packets : List FramedPacket) (before : List (List ℕ)) (f : Framed) : Type 0 where
  pub whole : All (λ p. sum p.access_units ≡ p.packet.size) packets
  pub gone : GoneBy (gone_seen f.held.parts) (drop (length (payloads_from s.pid before)) (gone_cut rate s.rx framing.frame packets))

-- ---- a view has no excess of its main buffer

-- the line `main` has at most its size and no excess: no excess has ended, and none is open at the end
pub record NoFrameExcess (f : Framed) : Type 0 where
  pub most : main_most f.held ≤ f.held.main.size
  pub none_ended : f.tally.main_excesses ≡ 0
  pub none_under_way : f.held.main.under_way ≡ None

-- this holds for each stream whose access units the description declares, if it is viewed by access units, wherever its buffers begin
abbrev pub RunFramesLaw : Type 0
RunFramesLaw = (d : Scheduled) (units : ℕ → List AccessUnit) (slots : ℕ) (request : RequestView) (place : ℕ) (e : EntryState) (k : ℕ) (framing : FrameDeclaration)
    (packets : List FramedPacket) (f : Framed) → IsInRange d.description → Promised d.description d.schedule → UnitsKept d units → slots ≤ most_packets →
    (viewed : IsViewedAs d request k e) → (whole : IsWhole request d.description.rate (cut_packets (run_bytes (content_at d units) 0 slots)) e) →
    slice_get (after_all (start request) (cut_packets (run_bytes (content_at d units) 0 slots))).table.entries place ≡ Some e →
    viewed.stream.framing ≡ Some framing → CutsUnits d viewed.stream framing (units k) packets → e.framed ≡ Some f →
    SeenAs d.description.rate viewed.stream framing packets whole.begun.before f → NoFrameExcess f

-- the same for a whole job in which every unit is accepted, over one plan that keeps its conditions, or over two plans in turn
abbrev pub JobFramesLaw : Type 0
JobFramesLaw = (d : Scheduled) (units : List (ℕ × AccessUnit)) (slots : ℕ) (request : RequestView) (place : ℕ) (e : EntryState) (k : ℕ) (framing : FrameDeclaration)
    (packets : List FramedPacket) (f : Framed) → IsInRange d.description → Promised d.description d.schedule →
    first_refused d (capacity_for units) [] units ≡ None → slots ≤ most_packets → (viewed : IsViewedAs d request k e) →
    (whole : IsWhole request d.description.rate (cut_packets (output_of false d (job_history units slots))) e) →
    slice_get (after_all (start request) (cut_packets (output_of false d (job_history units slots)))).table.entries place ≡ Some e →
    viewed.stream.framing ≡ Some framing → CutsUnits d viewed.stream framing (units_of k units) packets → e.framed ≡ Some f →
    SeenAs d.description.rate viewed.stream framing packets whole.begun.before f → NoFrameExcess f
