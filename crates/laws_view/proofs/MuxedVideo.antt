-- The elementary stream buffers of a run that a multiplexer wrote, in a view
use Rattle.std.proofs.Common.{◌≡◌, ◌∙◌, sym, ℕ, ◌+◌, ◌*◌, ◌≤◌, false, List, [], ◌∷◌, ◌++◌, length, map, take, drop, Option, Some, None, refl, ap, subst, arith}
use Rattle.std.proofs.Common.{All}
use Rattle.std.specs.Prelude.{flat_map}
use Rattle.std.specs.Option.{option_to_list}
use Rattle.std.proofs.lemmas.List.{map-append, take-append-drop, take_at, drop_at}
use Rattle.std.proofs.lemmas.List.Elements.{All-cons, All-head, All-nil, All-tail, All-weaker}
use Rattle.clock27.specs.Departure.{departures, last_left}
use Rattle.clock27.proofs.Departures.{departures-append, earliest, length-departures}
use Rattle.ts_packet.specs.PidList.{Entry, cut_packets}
use Rattle.pes_packet.specs.AccessUnits.{AccessUnit}
use Rattle.pes_packet.specs.Units.{units_of}
use Rattle.slot_contents.specs.Contents.{run_bytes}
use Rattle.description_parts.specs.Described.{DescribedStream}
use Rattle.description_parts.specs.Ranges.{IsInRange}
use Rattle.slot_plan.specs.Promised.{Promised}
use Rattle.unit_timing.specs.MainBuffer.{mb_fullness}
use Rattle.unit_timing.specs.Schedule.{Packet}
use Rattle.unit_timing.specs.Transport.{NoneLeavesEarly, pes_left}
use Rattle.unit_timing.proofs.NotEarly.{none_leaves_early_law}
use Rattle.unit_queue.specs.OwnedStreams.{OwnedStream}
use Rattle.tstd.specs.Carried.{packets_on, timed_pes_packets}
use Rattle.mux_core.specs.Scheduled.{Scheduled}
use Rattle.mux_core.specs.Headline.{UnitsKept}
use Rattle.mux_core.specs.Histories.{content_at, owned_stream}
use Rattle.mux_core.specs.WholeJobs.{job_history, output_of}
use Rattle.mux_core.proofs.JobWriting.{output_bytes}
use Rattle.mux_core.proofs.StreamsAlone.{stream_alone}
use Rattle.mux_core.proofs.StreamsKept.{main_kept}
use Rattle.mux_core.proofs.Whole.{contents_fit}
use Rattle.laws_run.proofs.MonitoredJobs.{job_kept}
use Rattle.arrival.specs.declared.arrival.Arrival.TheVariants.{AtRate}
use Rattle.tstd_rows.specs.VideoViewed.{elementary_held, multiplexing_left}
use Rattle.tstd_rows.specs.Held.{Held, empty}
use Rattle.tstd_rows.specs.HeldVideo.{VideoSizes}
use Rattle.tstd_rows.specs.declared.arriving.Arriving.{Arriving}
use Rattle.ts_watch.specs.Choices.{RequestView}
use Rattle.es_view.specs.Entries.{EntryState}
use Rattle.laws_view.specs.StreamPackets.{after_each, most_packets}
use Rattle.laws_view.specs.CarriedStreams.{CutUnit, cut_pieces, cut_senders, cut_units}
use Rattle.laws_view.specs.WholeStreams.{IsWhole, followed, known_at_begin, stream_packets}
use Rattle.laws_view.specs.ViewedRuns.{IsViewedAs}
use Rattle.laws_view.specs.VideoExcesses.{JobElementaryLaw, NoElementaryExcess, RunElementaryLaw, video_each}
use Rattle.laws_view.proofs.KeptBytes.{Follows}
use Rattle.laws_view.proofs.SentBytes.{packet_sizes, sizes_of}
use Rattle.laws_view.proofs.SentUnits.{entry_packet, many_packets, sizes_below}
use Rattle.laws_view.proofs.ClockAhead.{entries_from}
use Rattle.laws_view.proofs.PidEntries.{pid_entries}
use Rattle.laws_view.proofs.RunUnits.{cuts_of, same_units}
use Rattle.laws_view.proofs.MuxedMain.{run_viewed}
use Rattle.laws_view.proofs.VideoBytes.{later_leaked}
use Rattle.laws_view.proofs.VideoExcesses.{greatest_below, none_under_way, quiet_each, rate_each}

-- If no byte leaves a buffer early, none leaves the buffer after it early.
pub leaked_late : (r leak prev : ℕ) (ps : List Packet) (left : List ℕ) → NoneLeavesEarly r ps left → NoneLeavesEarly r ps (departures leak prev left)
unfolding NoneLeavesEarly
leaked_late r leak prev [] left none = rw none (unfold departures in refl)
leaked_late r leak prev (p ∷ ps) left late =
    let mine : List ℕ = take p.size left in
    let others : List ℕ = drop p.size left in
    let here : List ℕ = departures leak prev mine in
    let rest : List ℕ = departures leak (last_left leak prev mine) others in
    let two : departures leak prev left ≡ here ++ rest =
    ap (λ (l : List ℕ). departures leak prev l) (sym (take-append-drop p.size left)) ∙ departures-append leak prev mine others in
    let many : length here ≡ p.size = length-departures leak prev mine ∙ late.0 in
    let first : take p.size (departures leak prev left) ≡ here = ap (λ (l : List ℕ). take p.size l) two ∙ take_at here rest p.size many in
    let after_it : drop p.size (departures leak prev left) ≡ rest = ap (λ (l : List ℕ). drop p.size l) two ∙ drop_at here rest p.size many in
    let low : ℕ = 188 * p.slot * r in
    let later : All (λ d. low ≤ d) here =
    All-weaker (λ d. low + leak ≤ d) (λ d. low ≤ d) (λ d h. omega (arith, h)) here (earliest leak prev low mine late.1) in (
      subst (λ (l : List ℕ). length l ≡ p.size) (sym first) many,
      subst (λ (l : List ℕ). All (λ d. low ≤ d) l) (sym first) later,
      subst (λ (l : List ℕ). NoneLeavesEarly r ps l) (sym after_it) (leaked_late r leak (last_left leak prev mine) ps others late.2),
    )

pub small_parts : (xs ys : List Packet) → All (λ p. p.size ≤ 188) (xs ++ ys) → All (λ p. p.size ≤ 188) xs × All (λ p. p.size ≤ 188) ys
small_parts [] ys all = (All-nil (λ (p : Packet). p.size ≤ 188), all)
small_parts (x ∷ xs) ys all =
    let rest = small_parts xs ys (All-tail (λ p. p.size ≤ 188) x (xs ++ ys) all) in
    (All-cons (λ p. p.size ≤ 188) x xs (All-head (λ p. p.size ≤ 188) x (xs ++ ys) all) rest.0, rest.1)

-- At each moment the view's elementary stream buffer holds no more than a main buffer that bytes enter at these late times.
record RunLeaked (d : Scheduled) (s : DescribedStream) (us : List AccessUnit) (bytes : List ℕ) (leak : ℕ) (e : EntryState) : Type 0 where
  left : List ℕ
  late : NoneLeavesEarly s.rx (packets_on s.pid bytes) left
  fuller : (x : ℕ) →
      elementary_held d.description.rate leak e.held.parts x ≤ mb_fullness d.description.rate s.rx x (timed_pes_packets s.stream_id d.description.base0 us) left

run_leaked : (d : Scheduled) (units : ℕ → List AccessUnit) (slots : ℕ) (request : RequestView) (e : EntryState) (k leak : ℕ) → IsInRange d.description →
    Promised d.description d.schedule → UnitsKept d units → slots ≤ most_packets → (viewed : IsViewedAs d request k e) →
    (whole : IsWhole request d.description.rate (cut_packets (run_bytes (content_at d units) 0 slots)) e) →
    RunLeaked d viewed.stream (units k) (run_bytes (content_at d units) 0 slots) leak e
run_leaked d units slots request e k leak ranges promised kept few viewed whole =
    let rate : ℕ = d.description.rate in
    let base0 : ℕ = d.description.base0 in
    let bytes : List ℕ = run_bytes (content_at d units) 0 slots in
    let s : DescribedStream = viewed.stream in
    let l : OwnedStream = owned_stream d k s in
    let us : List AccessUnit = units k in
    let rest : List (List ℕ) = whole.begun.first ∷ whole.begun.later in
    let ps : List Arriving = stream_packets request e whole.begun.before rest in
    let v = run_viewed d units slots request e k ranges promised kept few viewed whole in
    let cuts : List CutUnit = cuts_of l us in
    let es : List Entry = entries_from s.pid 0 whole.begun.before in
    let fs : List Entry = entries_from s.pid (length whole.begun.before) rest in
    let front : List Packet = map entry_packet es in
    let back : List Packet = map entry_packet fs in
    let two : map entry_packet (entries_from s.pid 0 (cut_packets bytes)) ≡ front ++ back =
    ap (λ (xs : List Entry). map entry_packet xs) v.entries ∙ map-append entry_packet es fs in
    let on : packets_on s.pid bytes ≡ front ++ back = ap (λ (xs : List Entry). map entry_packet xs) (pid_entries s.pid bytes) ∙ two in
    let sizes : packet_sizes (front ++ back) ≡ take (length (front ++ back)) (sizes_of (cut_pieces cuts)) =
    subst (λ (xs : List Packet). packet_sizes xs ≡ take (length xs) (sizes_of (cut_pieces cuts))) two v.sent.sizes in
    let whole_small = sizes_below base0 v.sent.first None (entries_from s.pid 0 (cut_packets bytes)) (cut_senders cuts) v.sent.sent in
    let both = small_parts front back (subst (λ (xs : List Packet). All (λ p. p.size ≤ 188) xs) two whole_small) in
    let follows : Follows rate e.held.rx None ps (drop (length front) (cut_senders cuts)) =
    subst (λ (n : ℕ). Follows rate e.held.rx None ps (drop n (cut_senders cuts))) (sym (many_packets es)) v.begin.follows in
    let left : List ℕ = pes_left rate s.rx 0 front ++ departures leak 0 (pes_left rate s.rx 0 back) in
    record {
      left = left;
      late = subst (λ (xs : List Packet). NoneLeavesEarly s.rx xs left) (sym on)
          (none_leaves_early_law.joined s.rx front back (pes_left rate s.rx 0 front) (departures leak 0 (pes_left rate s.rx 0 back))
          (none_leaves_early_law.model rate s.rx 0 front both.0)
          (leaked_late s.rx leak 0 back (pes_left rate s.rx 0 back) (none_leaves_early_law.model rate s.rx 0 back both.1)));
      fuller = λ x.
          let in_view : elementary_held rate leak e.held.parts x
          ≡ elementary_held rate leak (after_each (empty rate e.held.rx e.held.main.size) (AtRate rate) ps).parts x =
          ap (λ (h : Held). elementary_held rate leak h.parts x) whole.held in
          let within = later_leaked rate e.held.rx e.held.main.size (known_at_begin (followed request e) whole.begun.before).index x leak s.stream_id base0 cuts
          ps
          front back v.begin.come follows v.begin.packets both.0 both.1 v.sent.cut sizes in
          let same : mb_fullness rate e.held.rx x (timed_pes_packets s.stream_id base0 (cut_units cuts))
          (pes_left rate e.held.rx 0 front ++ departures leak 0 (pes_left rate e.held.rx 0 back)) ≡ mb_fullness rate s.rx x
          (timed_pes_packets s.stream_id base0 us) left =
          ap (λ (r : ℕ). mb_fullness rate r x (timed_pes_packets s.stream_id base0 (cut_units cuts))
          (pes_left rate r 0 front ++ departures leak 0 (pes_left rate r 0 back))) viewed.rx
          ∙ ap (λ (ws : List AccessUnit). mb_fullness rate s.rx x (timed_pes_packets s.stream_id base0 ws) left) (same_units l us) in
          omega (arith, in_view, within, same);
    }

pub run_elementary_law : RunElementaryLaw
run_elementary_law d units slots request e k sizes ranges promised kept few viewed whole video size =
    let rate : ℕ = d.description.rate in
    let s : DescribedStream = viewed.stream in
    let us : List AccessUnit = units k in
    let ps : List Arriving = stream_packets request e whole.begun.before (whole.begun.first ∷ whole.begun.later) in
    let h : Held = empty rate e.held.rx e.held.main.size in
    let v = run_leaked d units slots request e k sizes.leak ranges promised kept few viewed whole in
    let within : (x : ℕ) → elementary_held rate sizes.leak e.held.parts x ≤ sizes.elementary =
    λ x.
    let fits : mb_fullness rate s.rx x (timed_pes_packets s.stream_id d.description.base0 us) v.left ≤ s.main =
    main_kept d k s us (content_at d units) slots viewed.there (stream_alone d units k s ranges (contents_fit d units ranges kept) viewed.there)
    (kept.kept k s viewed.there) promised x
    v.left v.late in
    omega (arith, v.fuller x, fits, size) in
    let same : e.held.rate ≡ rate = ap (λ (g : Held). g.rate) whole.held ∙ rate_each h (AtRate rate) ps in
    let here : (x : ℕ) → elementary_held e.held.rate sizes.leak e.held.parts x ≤ sizes.elementary =
    λ x. omega (arith, within x, ap (λ (r : ℕ). elementary_held r sizes.leak e.held.parts x) same) in
    let each : (x : ℕ) → elementary_held rate sizes.leak (after_each h (AtRate rate) ps).parts x ≤ sizes.elementary =
    λ x. omega (arith, within x, ap (λ (g : Held). elementary_held rate sizes.leak g.parts x) whole.held) in
    record {
      most = greatest_below (elementary_held e.held.rate sizes.leak e.held.parts) sizes.elementary (multiplexing_left e.held.rate sizes.leak e.held.parts) here;
      none_ended = ap (λ (o : Option VideoSizes). flat_map (λ v. option_to_list v.elementary) (video_each o h (AtRate rate) ps)) video
          ∙ quiet_each sizes h (AtRate rate) ps each;
      none_under_way = none_under_way e.held.rate sizes.leak sizes.elementary e.held.parts here;
    }

pub job_elementary_law : JobElementaryLaw
job_elementary_law d units slots request e k sizes ranges promised none few viewed =
    let each : ℕ → List AccessUnit = λ j. units_of j units in
    let same : run_bytes (content_at d each) 0 slots ≡ output_of false d (job_history units slots) = sym (output_bytes (content_at d each) 0 slots) in
    subst (λ (bytes : List ℕ). (whole : IsWhole request d.description.rate (cut_packets bytes) e) → e.video ≡ Some sizes →
    sizes.elementary ≡ viewed.stream.main →
    NoElementaryExcess request d.description.rate (cut_packets bytes) e sizes whole) same
    (run_elementary_law d each slots request e k sizes ranges promised (job_kept d units ranges none) few viewed)
