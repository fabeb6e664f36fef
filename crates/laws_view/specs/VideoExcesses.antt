-- Of what a multiplexer wrote, viewed at its rate, no elementary stream buffer of video ever holds more than its size (ISO/IEC 13818-1, 2.4.2.3),
-- nor does a multiplexing buffer.
use Rattle.std.specs.Prelude.{◌≡◌, ℕ, ◌≤◌, false, List, [], ◌∷◌, flat_map, Option, Some, None}
use Rattle.std.specs.Option.{option_to_list}
use Rattle.ts_packet.specs.PidList.{cut_packets}
use Rattle.slot_contents.specs.Contents.{run_bytes}
use Rattle.pes_packet.specs.AccessUnits.{AccessUnit}
use Rattle.description_parts.specs.Ranges.{IsInRange}
use Rattle.slot_plan.specs.Promised.{Promised}
use Rattle.unit_timing.specs.declared.multiplexing_buffer.MultiplexingBuffer.{MultiplexingBuffer}
use Rattle.mux_core.specs.Scheduled.{Scheduled}
use Rattle.mux_core.specs.Headline.{UnitsKept}
use Rattle.mux_core.specs.Histories.{content_at}
use Rattle.mux_core.specs.WholeJobs.{capacity_for, first_refused, job_history, output_of}
use Rattle.arrival.specs.declared.arrival.Arrival.{Arrival}
use Rattle.arrival.specs.declared.arrival.Arrival.TheVariants.{AtRate}
use Rattle.tstd_rows.specs.Held.{Held, empty}
use Rattle.tstd_rows.specs.HeldVideo.{VideoEnteredView, VideoSizes}
use Rattle.tstd_rows.specs.VideoViewed.{leak_step}
use Rattle.tstd_rows.specs.Entering.{after}
use Rattle.tstd_rows.specs.EnteringVideo.{video_of}
use Rattle.tstd_rows.specs.declared.arriving.Arriving.{Arriving}
use Rattle.ts_watch.specs.Choices.{RequestView}
use Rattle.es_view.specs.Entries.{EntryState}
use Rattle.es_events.specs.VideoFigures.{figures_with}
use Rattle.laws_view.specs.StreamPackets.{most_packets}
use Rattle.laws_view.specs.ViewedRuns.{IsViewedAs}
use Rattle.laws_view.specs.WholeStreams.{IsWhole, stream_packets}

-- packets enter buffers one after another: what has ended with each packet in the two buffers of video
unfoldable pub video_each : Option VideoSizes → Held → Arrival → List Arriving → List VideoEnteredView
video_each sizes h arrival [] = []
video_each sizes h arrival (p ∷ ps) = video_of sizes h arrival p ∷ video_each sizes (after h arrival p) arrival ps

-- the elementary stream buffer of such a stream has no excess: the line `elementary` has at most its size, no excess has ended with any of the
-- stream's packets, and none is open at the end
pub record NoElementaryExcess (request : RequestView) (rate : ℕ) (packets : List (List ℕ)) (e : EntryState) (sizes : VideoSizes)
    (whole : IsWhole request rate packets e) : Type 0 where
  pub most : (figures_with sizes e.held).elementary_most ≤ sizes.elementary
  pub none_ended : flat_map (λ v. option_to_list v.elementary)
      (video_each e.video (empty rate e.held.rx e.held.main.size) (AtRate rate)
      (stream_packets request e whole.begun.before (whole.begun.first ∷ whole.begun.later))) ≡ []
  pub none_under_way : (figures_with sizes e.held).elementary ≡ None

-- this holds for each stream of the description that is viewed with an elementary stream buffer of the description's size, however its
-- multiplexing buffer leaks and wherever the buffers begin
abbrev pub RunElementaryLaw : Type 0
RunElementaryLaw = (d : Scheduled) (units : ℕ → List AccessUnit) (slots : ℕ) (request : RequestView) (e : EntryState) (k : ℕ) (sizes : VideoSizes) →
    IsInRange d.description → Promised d.description d.schedule → UnitsKept d units → slots ≤ most_packets → (viewed : IsViewedAs d request k e) →
    (whole : IsWhole request d.description.rate (cut_packets (run_bytes (content_at d units) 0 slots)) e) →
    e.video ≡ Some sizes → sizes.elementary ≡ viewed.stream.main →
    NoElementaryExcess request d.description.rate (cut_packets (run_bytes (content_at d units) 0 slots)) e sizes whole

-- the same for a whole job in which every unit is accepted, over one plan that keeps its conditions, or over two plans in turn
abbrev pub JobElementaryLaw : Type 0
JobElementaryLaw = (d : Scheduled) (units : List (ℕ × AccessUnit)) (slots : ℕ) (request : RequestView) (e : EntryState) (k : ℕ) (sizes : VideoSizes) →
    IsInRange d.description → Promised d.description d.schedule → first_refused d (capacity_for units) [] units ≡ None → slots ≤ most_packets →
    (viewed : IsViewedAs d request k e) → (whole : IsWhole request d.description.rate (cut_packets (output_of false d (job_history units slots))) e) →
    e.video ≡ Some sizes → sizes.elementary ≡ viewed.stream.main →
    NoElementaryExcess request d.description.rate (cut_packets (output_of false d (job_history units slots))) e sizes whole

-- the multiplexing buffer of such a stream has no excess: the line `multiplexing` has at most its size, no excess has ended with any of the
-- stream's packets, and none is open at the end
pub record NoMultiplexingExcess (request : RequestView) (rate : ℕ) (packets : List (List ℕ)) (e : EntryState) (sizes : VideoSizes)
    (whole : IsWhole request rate packets e) : Type 0 where
  pub most : (figures_with sizes e.held).multiplexing_most ≤ sizes.multiplexing
  pub none_ended : flat_map (λ v. v.multiplexing)
      (video_each e.video (empty rate e.held.rx e.held.main.size) (AtRate rate)
      (stream_packets request e whole.begun.before (whole.begun.first ∷ whole.begun.later))) ≡ []
  pub none_under_way : (figures_with sizes e.held).multiplexing ≡ None

-- a multiplexing buffer of that size that is viewed at the rate of the description: a byte takes a whole number of the view's units of time to
-- leave it, which is rounded up
pub record LeaksAs (rate rx : ℕ) (b : MultiplexingBuffer) (sizes : VideoSizes) : Type 0 where
  pub size : sizes.multiplexing ≡ b.size
  pub leak : sizes.leak ≡ leak_step rate rx b.rbx

-- so of each stream of the description that is viewed so, wherever its buffers begin
abbrev pub RunMultiplexingLaw : Type 0
RunMultiplexingLaw = (d : Scheduled) (units : ℕ → List AccessUnit) (slots : ℕ) (request : RequestView) (e : EntryState) (k : ℕ) (b : MultiplexingBuffer)
    (sizes : VideoSizes) →
    IsInRange d.description → Promised d.description d.schedule → UnitsKept d units → slots ≤ most_packets → (viewed : IsViewedAs d request k e) →
    (whole : IsWhole request d.description.rate (cut_packets (run_bytes (content_at d units) 0 slots)) e) →
    viewed.stream.multiplexing ≡ Some b → e.video ≡ Some sizes → LeaksAs d.description.rate viewed.stream.rx b sizes →
    NoMultiplexingExcess request d.description.rate (cut_packets (run_bytes (content_at d units) 0 slots)) e sizes whole

abbrev pub JobMultiplexingLaw : Type 0
JobMultiplexingLaw = (d : Scheduled) (units : List (ℕ × AccessUnit)) (slots : ℕ) (request : RequestView) (e : EntryState) (k : ℕ) (b : MultiplexingBuffer)
    (sizes : VideoSizes) →
    IsInRange d.description → Promised d.description d.schedule → first_refused d (capacity_for units) [] units ≡ None → slots ≤ most_packets →
    (viewed : IsViewedAs d request k e) → (whole : IsWhole request d.description.rate (cut_packets (output_of false d (job_history units slots))) e) →
    viewed.stream.multiplexing ≡ Some b → e.video ≡ Some sizes → LeaksAs d.description.rate viewed.stream.rx b sizes →
    NoMultiplexingExcess request d.description.rate (cut_packets (output_of false d (job_history units slots))) e sizes whole
